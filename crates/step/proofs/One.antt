-- One possible result: any two results that a contract allows at the same arguments are equal, and so are the lent bytes then.
use mathlib.Core.Path.{◌≡◌, sym, ◌∙◌}
use contract.Lifetimes.{Lfts}
use denote.Triple.Entry.{Args, Res}
use denote.Triple.Clauses.{AtExit}
use Rattle.step.specs.contracts.step as step
use Rattle.step.proofs.step.Reads as step-reads
use Rattle.step.specs.contracts.step_at as step-at
use Rattle.step.proofs.step_at.Reads as step-at-reads

pub step_one : (κs : Lfts 0) (a : Args step.signature κs) (r r' : Res step.signature κs) (e e' : AtExit step.ended κs) → step-reads.Post κs a r e → step-reads.Post κs a r' e' → r ≡ r'
step_one κs a r r' e e' p p' = p ∙ sym p'

pub step_at_one : (κs : Lfts 1) (a : Args step-at.signature κs) (r r' : Res step-at.signature κs) (e e' : AtExit step-at.ended κs) → step-at-reads.Post κs a r e → step-at-reads.Post κs a r' e' → (r ≡ r') × (e.0.now ≡ e'.0.now)
step_at_one κs a r r' e e' p p' = (p.0 ∙ sym p'.0, p.1 ∙ sym p'.1)
