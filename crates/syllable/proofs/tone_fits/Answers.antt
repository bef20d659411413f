-- `syllable::tone_fits` meets its contract: an acute and a dot fit every final, and any other tone what is no stop.
use mathlib.Core.Path.{◌≡◌, refl, ap}
use mathlib.Core.Bool.{true, not}
use mathlib.Core.Logic.{◌⊎◌, inl, inr}
use Prim.Native.Nat.{ℕ}
use borrow.Author.Tests.{ne_eqb}
use Rattle.rules.specs.Letters.{Letters, acute, dot}
use Rattle.rules.specs.TakingApart.{fits}
use Rattle.syllable.proofs.tone_fits.Goals as goal

fitting : (f : Letters) (tone : ℕ) → (tone ≡ acute) ⊎ (tone ≡ dot) → true ≡ fits f tone
unfolding fits
fitting f tone (inl e) = rw e refl
fitting f tone (inr e) = rw e refl

pub returns-in-1 : goal.returns-in-1
returns-in-1 c f q = fitting f c.args.tone c.in-1.is

pub returns-in_default : goal.returns-in_default
unfolding fits
returns-in_default c f q =
    let t = c.args.tone in
    let n : t ≡ acute → ⊥ = λ e. c.in_default.in_default-own.rest.1 (inl e) in
    let m : t ≡ dot → ⊥ = λ e. c.in_default.in_default-own.rest.1 (inr e) in
    rw (ne_eqb t acute n, ne_eqb t dot m) (ap not (c.stop.ensures f q))
