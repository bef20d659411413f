-- The bridge: every valid syllable is one of the forms of the tables, but for its case; so what every form passes, in every mix of capitals, every valid syllable passes.
use mathlib.Core.Path.{◌≡◌, sym, subst}
use mathlib.Core.Bool.{Bool}
use Prim.Native.Nat.{ℕ}
use lib.Dec.{T}
use Rattle.rules.specs.Letters.{Letters, same, one_of}
use Rattle.rules.specs.TakingApart.{verdict}
use Rattle.forms.specs.Forms.{all_forms, capitals, in_cases, EveryForm}
use Rattle.forms.proofs.SomeAndEvery.{meet}
use Rattle.forms.proofs.Cases.{same_cased}
use Rattle.forms.proofs.Bridge.{passed, is_form}

-- Letters of any number and in any case, and any tone: where the verdict is 0, the letters are one of the forms.
pub complete : (w : Letters) (t : ℕ) → verdict w t ≡ 0 → T (one_of w all_forms)
complete w t v = is_form w t (passed w t v)

pub each_valid : (f : Letters → Bool) → EveryForm f → (w : Letters) (t : ℕ) → verdict w t ≡ 0 → T (f w)
each_valid f h w t v =
    let m = meet (same w) (in_cases f (capitals w)) all_forms (complete w t v) (h (capitals w)) in
    subst (λ (z : Letters). T (f z)) (sym (same_cased w m.here m.one)) m.other
