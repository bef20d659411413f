-- `targets::is_own` meets its contract: whether a letter is a, e or o is asked of the key's own, which it then is.
use mathlib.Core.Path.{◌≡◌, refl, sym, ap, ◌∙◌}
use mathlib.Core.Bool.{Bool, true, false, ◌&&◌}
use Prim.Native.Nat.{ℕ}
use lib.Dec.{eqb}
use borrow.Author.Tests.{eqb-true}
use Rattle.rules.specs.KeyRoles.{is_aeo}
use Rattle.targets.proofs.is_own.Goals as goal

other : (p : Bool) → false ≡ p && false
other true = refl
other false = refl

the_same : (p : Bool) → p ≡ p && true
the_same true = refl
the_same false = refl

of_own : (b x : ℕ) (q : Bool) → eqb x b ≡ q → (q && is_aeo b) ≡ (is_aeo x && q)
of_own b x true e = ap is_aeo (sym (eqb-true x b e)) ∙ the_same (is_aeo x)
of_own b x false e = other (is_aeo x)

pub returns : goal.returns
returns c = let args = c.args in ap (◌&&◌ (eqb args.b args.own)) c.is_aeo.ensures ∙ of_own args.own args.b (eqb args.b args.own) refl
