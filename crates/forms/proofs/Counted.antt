-- Behind the sizes: the numbers of the forms ascend, each form is valid, and a tone that fits keeps a syllable valid.
use mathlib.Core.Path.{◌≡◌, refl, ap}
use mathlib.Core.Bool.{Bool, true, false, not}
use mathlib.Core.List.{List, [], ◌∷◌}
use Prim.Native.Nat.{ℕ, suc, ◌<◌, ◌≤◌}
use native.Mathlib.Omega.{arith}
use lib.Dec.{T, leb, leb→le}
use lib.Ieee.Fits.{and_l, and_r}
use Rattle.rules.specs.Letters.{Letters, one_of, is_nil, first_base}
use Rattle.rules.specs.TakingApart.{initials, finals, initial, nucleus, final, leftovers, joins, fit, listed, fits, verdict}
use Rattle.forms.specs.Forms.{all_forms, EveryForm}
use Rattle.forms.specs.Sizes.{form_number, ascending, Unlike, no_other, not_this, Different, no_forms, and_these, is_valid}
use Rattle.forms.proofs.Bridge.{by_checks, passed}
use Rattle.forms.proofs.SevenInitials.{Pass, together}

-- no two are equal: each has its number, and the numbers ascend
pub ascend : T (ascending 0 all_forms)
unfolding all_forms initial nucleus final joins fit
ascend = tt

above : (w : Letters) (least : ℕ) (ws : List Letters) → form_number w < least → T (ascending least ws) → Unlike w ws
above w least [] h t = no_other
above w least (z ∷ zs) h t =
    let k : least ≤ form_number z = leb→le least (form_number z) (and_l (leb least (form_number z)) (ascending (suc (form_number z)) zs) t) in
    not_this (λ (e : w ≡ z). absurd (omega (arith, ap form_number e))) (above w (suc (form_number z)) zs (omega arith) (and_r (leb least (form_number z)) (ascending (suc (form_number z)) zs) t))

pub different : (least : ℕ) (ws : List Letters) → T (ascending least ws) → Different ws
different least [] t = no_forms
different least (w ∷ ws) t =
    let u = and_r (leb least (form_number w)) (ascending (suc (form_number w)) ws) t in
    and_these (above w (suc (form_number w)) ws (omega arith) u) (different (suc (form_number w)) ws u)

-- each is valid, in every mix of capitals
valid_0 : Pass is_valid 0
unfolding verdict listed fits initial nucleus final leftovers joins fit
valid_0 cs = tt

valid_7 : Pass is_valid 7
unfolding verdict listed fits initial nucleus final leftovers joins fit
valid_7 cs = tt

valid_14 : Pass is_valid 14
unfolding verdict listed fits initial nucleus final leftovers joins fit
valid_14 cs = tt

valid_21 : Pass is_valid 21
unfolding verdict listed fits initial nucleus final leftovers joins fit
valid_21 cs = tt

pub every_valid : EveryForm is_valid
every_valid = together is_valid valid_0 valid_7 valid_14 valid_21

-- the tones of a valid form are those that fit its final
pub retoned : (w : Letters) (t u : ℕ) → verdict w t ≡ 0 → T (fits (final w) u) → verdict w u ≡ 0
unfolding verdict
retoned w t u v f =
    let s = passed w t v in
    go (is_nil (nucleus w)) (one_of (initial w) initials) (is_nil (leftovers w)) (fit (initial w) (first_base (nucleus w))) (one_of (final w) finals) (listed (initial w) (nucleus w) (final w)) (fits (final w) u)
    s.vowels s.known s.whole s.suits s.ends s.list f
  where
    go : (e i n f g l s : Bool) → T (not e) → T i → T n → T f → T g → T l → T s → by_checks e i n f g l s ≡ 0
    go false true true true true true true a b c d e f g = refl
    go false false n _ _ l s a b c d e f g = elim b [ ]
    go false true false _ _ l s a b c d e f g = elim c [ ]
    go false true true false _ l s a b c d e f g = elim d [ ]
    go false true true true false l s a b c d e f g = elim e [ ]
    go false true true true true false s a b c d e f g = elim f [ ]
    go false true true true true true false a b c d e f g = elim g [ ]
    go true i n _ _ l s a b c d e f g = elim a [ ]
