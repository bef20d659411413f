-- One possible result: any two results that the contract allows at the same arguments are equal.
use mathlib.Core.Path.{◌≡◌, sym, ◌∙◌}
use contract.Lifetimes.{Lfts}
use denote.Triple.Entry.{Args, Res}
use denote.Triple.Clauses.{AtExit}
use Rattle.groups.specs.contracts.number_at as number_at
use Rattle.groups.proofs.number_at.Reads as number-at-reads
use Rattle.groups.specs.contracts.written as written
use Rattle.groups.proofs.written.Reads as written-reads

pub number_at_one : (κs : Lfts 1) (a : Args number_at.signature κs) (r r' : Res number_at.signature κs) (e e' : AtExit number_at.ended κs) → number-at-reads.Post κs a r e → number-at-reads.Post κs a r' e' → r ≡ r'
number_at_one κs a r r' e e' p p' = p ∙ sym p'

pub written_one : (κs : Lfts 0) (a : Args written.signature κs) (r r' : Res written.signature κs) (e e' : AtExit written.ended κs) → written-reads.Post κs a r e → written-reads.Post κs a r' e' → r ≡ r'
written_one κs a r r' e e' p p' = p ∙ sym p'
