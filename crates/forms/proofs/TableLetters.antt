-- What each letter of the tables passes, by base and shape, each letter of a valid syllable passes.
use mathlib.Core.Path.{◌≡◌, sym, subst}
use mathlib.Core.Bool.{Bool, true, ◌&&◌}
use mathlib.Core.List.{List, [], ◌∷◌, ◌++◌}
use Prim.Native.Nat.{ℕ}
use lib.Dec.{T}
use lib.Ieee.Fits.{and_i, and_l, and_r}
use Rattle.rules.specs.Letters.{Letters, same, one_of}
use Rattle.rules.specs.TakingApart.{initial, nucleus, final, initials, finals, rows, takes, stands, is_this, listed, verdict}
use Rattle.forms.specs.Forms.{capitals, other_cases, cased_as, every}
use Rattle.rules.proofs.Bools.{and_if}
use Rattle.forms.proofs.SomeAndEvery.{meet, every_row, meet_row}
use Rattle.forms.proofs.Cases.{same_cased}
use Rattle.forms.proofs.Bridge.{passed, parts}

abbrev pub each_letter : (ℕ → ℕ → Bool) → Letters → Bool
each_letter g [] = true
each_letter g (x ∷ xs) = g x.base x.shape && each_letter g xs

each_same : (g : ℕ → ℕ → Bool) (w z : Letters) → T (same w z) → T (each_letter g z) → T (each_letter g w)
each_same g w z t h = subst (λ (y : Letters). T (each_letter g y)) (sym (same_cased w z t)) (go (capitals w) z h)
  where
    go : (cs : List Bool) (z : Letters) → T (each_letter g z) → T (each_letter g (cased_as cs z))
    go cs [] h = tt
    go cs (x ∷ z) h = and_i (g x.base x.shape) (each_letter g (cased_as (other_cases cs) z)) (and_l (g x.base x.shape) (each_letter g z) h) (go (other_cases cs) z (and_r (g x.base x.shape) (each_letter g z) h))

each_of : (g : ℕ → ℕ → Bool) (w : Letters) (zs : List Letters) → T (one_of w zs) → T (every (each_letter g) zs) → T (each_letter g w)
each_of g w zs t h = let m = meet (same w) (each_letter g) zs t h in each_same g w m.here m.one m.other

each_append : (g : ℕ → ℕ → Bool) (v w : Letters) → T (each_letter g v) → T (each_letter g w) → T (each_letter g (v ++ w))
each_append g [] w h k = k
each_append g (x ∷ v) w h k = and_i (g x.base x.shape) (each_letter g (v ++ w)) (and_l (g x.base x.shape) (each_letter g v) h) (each_append g v w (and_r (g x.base x.shape) (each_letter g v) h) k)

pub each_letter_law : (g : ℕ → ℕ → Bool) → T (every (each_letter g) initials) → T (every_row (each_letter g) rows) → T (every (each_letter g) finals) → (w : Letters) (t : ℕ) → verdict w t ≡ 0 → T (each_letter g w)
unfolding listed
each_letter_law g i n f w t v =
    let s = passed w t v in
    let m = meet_row (is_this (initial w) (nucleus w) (final w)) (each_letter g) rows s.list n in
    let (en, ok) = and_if (same (nucleus w) m.here) (stands (initial w) m.here && takes (initial w) m.row m.here (final w)) m.one in
    subst (λ (y : Letters). T (each_letter g y)) (parts w s.whole)
    (each_append g (initial w) (nucleus w ++ final w) (each_of g (initial w) initials s.known i)
    (each_append g (nucleus w) (final w) (each_same g (nucleus w) m.here en m.other) (each_of g (final w) finals s.ends f)))
