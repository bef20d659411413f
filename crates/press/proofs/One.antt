-- One possible result: any two results that the contract allows at the same arguments are equal, and so are the outputs, and the lent bytes then.
use mathlib.Core.Path.{◌≡◌, sym, ◌∙◌}
use contract.Lifetimes.{Lfts}
use denote.Triple.Entry.{Args, Res}
use denote.Triple.Clauses.{AtExit}
use Rattle.press.specs.contracts.press as press
use Rattle.press.proofs.press.Reads as press-reads
use Rattle.press.specs.contracts.press_at as press-at
use Rattle.press.proofs.press_at.Reads as press-at-reads

pub press_one : (κs : Lfts 1) (a : Args press.signature κs) (r r' : Res press.signature κs) (e e' : AtExit press.ended κs) → press-reads.Post κs a r e → press-reads.Post κs a r' e' → (r ≡ r') × (e.1.1.0.now ≡ e'.1.1.0.now)
press_one κs a r r' e e' p p' = (p.0 ∙ sym p'.0, p.1 ∙ sym p'.1)

pub press_at_one : (κs : Lfts 2) (a : Args press-at.signature κs) (r r' : Res press-at.signature κs) (e e' : AtExit press-at.ended κs) → press-at-reads.Post κs a r e → press-at-reads.Post κs a r' e' → (r ≡ r') × (e.0.now ≡ e'.0.now) × (e.1.1.0.now ≡ e'.1.1.0.now)
press_at_one κs a r r' e e' p p' = (p.0 ∙ sym p'.0, p.1 ∙ sym p'.1, p.2 ∙ sym p'.2)
