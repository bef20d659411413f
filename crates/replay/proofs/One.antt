-- One possible result: any two results that a contract allows at the same arguments are equal, and so are the outputs.
use mathlib.Core.Path.{◌≡◌, sym, ◌∙◌}
use contract.Lifetimes.{Lfts}
use denote.Triple.Entry.{Args, Res}
use denote.Triple.Clauses.{AtExit}
use Rattle.replay.specs.contracts.commit_word as commit-word
use Rattle.replay.proofs.commit_word.Reads as commit-word-reads
use Rattle.replay.specs.contracts.replay as replay
use Rattle.replay.proofs.replay.Reads as replay-reads

pub commit_word_one : (κs : Lfts 2) (a : Args commit-word.signature κs) (r r' : Res commit-word.signature κs) (e e' : AtExit commit-word.ended κs) → commit-word-reads.Post κs a r e → commit-word-reads.Post κs a r' e' → (r ≡ r') × (e.1.1.0.now ≡ e'.1.1.0.now)
commit_word_one κs a r r' e e' p p' = (p.0 ∙ sym p'.0, p.1 ∙ sym p'.1)

pub replay_one : (κs : Lfts 2) (a : Args replay.signature κs) (r r' : Res replay.signature κs) (e e' : AtExit replay.ended κs) → replay-reads.Post κs a r e → replay-reads.Post κs a r' e' → (r ≡ r') × (e.1.0.now ≡ e'.1.0.now)
replay_one κs a r r' e e' p p' = (p.0 ∙ sym p'.0, p.1 ∙ sym p'.1)
