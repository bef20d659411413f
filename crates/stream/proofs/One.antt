-- One possible result: any two results that a contract allows at the same arguments are equal, and so are the outputs.
use mathlib.Core.Path.{◌≡◌, sym, ◌∙◌}
use contract.Lifetimes.{Lfts}
use denote.Triple.Entry.{Args, Res}
use denote.Triple.Clauses.{AtExit}
use Rattle.stream.specs.contracts.Begun.new as new
use Rattle.stream.proofs.Begun.new.Reads as new-reads
use Rattle.stream.specs.contracts.header as header
use Rattle.stream.proofs.header.Reads as header-reads
use Rattle.stream.specs.contracts.feed as feed
use Rattle.stream.proofs.feed.Reads as feed-reads
use Rattle.stream.specs.contracts.finish as finish
use Rattle.stream.proofs.finish.Reads as finish-reads

pub new_one : (κs : Lfts 0) (a : Args new.signature κs) (r r' : Res new.signature κs) (e e' : AtExit new.ended κs) → new-reads.Post κs a r e → new-reads.Post κs a r' e' → r ≡ r'
new_one κs a r r' e e' p p' = p ∙ sym p'

pub header_one : (κs : Lfts 1) (a : Args header.signature κs) (r r' : Res header.signature κs) (e e' : AtExit header.ended κs) → header-reads.Post κs a r e → header-reads.Post κs a r' e' → (r ≡ r') × (e.1.0.now ≡ e'.1.0.now)
header_one κs a r r' e e' p p' = (p.0 ∙ sym p'.0, p.1 ∙ sym p'.1)

pub feed_one : (κs : Lfts 2) (a : Args feed.signature κs) (r r' : Res feed.signature κs) (e e' : AtExit feed.ended κs) → feed-reads.Post κs a r e → feed-reads.Post κs a r' e' → (r ≡ r') × (e.1.1.1.0.now ≡ e'.1.1.1.0.now)
feed_one κs a r r' e e' p p' = (p.0 ∙ sym p'.0, p.1 ∙ sym p'.1)

pub finish_one : (κs : Lfts 1) (a : Args finish.signature κs) (r r' : Res finish.signature κs) (e e' : AtExit finish.ended κs) → finish-reads.Post κs a r e → finish-reads.Post κs a r' e' → (r ≡ r') × (e.1.0.now ≡ e'.1.0.now)
finish_one κs a r r' e e' p p' = (p.0 ∙ sym p'.0, p.1 ∙ sym p'.1)
