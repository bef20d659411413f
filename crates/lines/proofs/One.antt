-- One possible result: any two results that the contract allows at the same arguments are equal, and so are the outputs.
use mathlib.Core.Path.{◌≡◌, sym, ◌∙◌}
use contract.Lifetimes.{Lfts}
use denote.Triple.Entry.{Args, Res}
use denote.Triple.Clauses.{AtExit}
use Rattle.lines.specs.contracts.answer_line as answer-line
use Rattle.lines.proofs.answer_line.Reads as answer-line-reads

pub answer_line_one : (κs : Lfts 2) (a : Args answer-line.signature κs) (r r' : Res answer-line.signature κs) (e e' : AtExit answer-line.ended κs) → answer-line-reads.Post κs a r e → answer-line-reads.Post κs a r' e' → (r ≡ r') × (e.1.1.0.now ≡ e'.1.1.0.now)
answer_line_one κs a r r' e e' p p' = (p.0 ∙ sym p'.0, p.1 ∙ sym p'.1)
