-- The checks on a word as `ask` makes them, and what its answer says: the verdict where the nucleus is not free, and whether a tone goes where it is.
use mathlib.Core.Path.{◌≡◌, refl, sym, subst}
use mathlib.Core.Bool.{Bool, true, false, not, ◌&&◌, ◌||◌}
use mathlib.Core.List.{[], ◌∷◌, ◌++◌}
use Prim.Native.Nat.{ℕ}
use lib.Dec.{T, eqb}
use lib.Ieee.Fits.{and_i, and_l, and_r}
use Rattle.rules.specs.Letters.{Letters, plain, is, same, is_nil, one_of, first_base}
use Rattle.rules.specs.TakingApart.{initial, nucleus, final, leftovers, initials, finals, fit, rows, takes, stands, is_this, listed, fits, check, first_that_holds, agrees_at, agrees, could_be, some_agrees, admitted}
use Rattle.rules.specs.KeyRoles.{tone_goes}
use Rattle.rules.proofs.Tests.{is_true, or_r, some_row_so}
use Rattle.syllable.specs.Checks.{sixth, first_fault}
use Rattle.rules.proofs.Bools.{if_so}

-- what passes a stronger test passes a weaker one
and_so : (a b c d : Bool) → (T a → T b) → (T c → T d) → T (if_so a c) → T (if_so b d)
and_so true true c d f g t = g t
and_so true false c d f g t = absurd (f tt)
and_so false b c d f g t = elim t [ ]

-- letters agree with themselves, so a listed nucleus agrees with a listed one
same_agrees : (v z : Letters) → T (same v z) → T (agrees v z)
same_agrees [] [] t = t
same_agrees (x ∷ v) (y ∷ z) t =
    and_so (is x y) (agrees_at x y) (same v z) (agrees v z)
    (λ h. and_i (eqb x.base y.base) (eqb x.shape plain || eqb x.shape y.shape) (search and_l) (or_r (eqb x.shape plain) (eqb x.shape y.shape) (search and_r)))
    (same_agrees v z) t
same_agrees [] (y ∷ z) t = elim t [ ]
same_agrees (x ∷ v) [] t = elim t [ ]

listed_agrees : (w v f : Letters) → T (listed w v f) → T (some_agrees w v f)
unfolding listed some_agrees
listed_agrees w v f =
    some_row_so (is_this w v f) (could_be w v f)
    (λ r z. and_so (same v z) (agrees v z) (stands w z && takes w r z f) (stands w z && (is_nil f || takes w r z f)) (same_agrees v z)
    (λ h. and_i (stands w z) (is_nil f || takes w r z f) (search and_l) (or_r (is_nil f) (takes w r z f) (search and_r)))) rows

pub listed_free : (free : Bool) (w : Letters) → listed (initial w) (nucleus w) (final w) ≡ true → sixth free w ≡ true
listed_free true w e = is_true _ (listed_agrees (initial w) (nucleus w) (final w) (subst T (sym e) tt))
listed_free false w e = e

pub answered : (w : Letters) (tone : ℕ) (free : Bool) {one two three four five six seven : Bool} → one ≡ is_nil (nucleus w) → two ≡ not (one_of (initial w) initials) → three ≡ not (is_nil (leftovers w)) → four ≡ not (fit (initial w) (first_base (nucleus w))) → five ≡ not (one_of (final w) finals) → six ≡ not (sixth free w) → seven ≡ not (fits (final w) tone) →
    first_that_holds (check 1 one ∷ check 2 two ∷ check 3 three ∷ check 4 four ∷ check 5 five ∷ check 6 six ∷ check 7 seven ∷ []) ≡ first_fault w tone free
unfolding first_fault
answered w tone free a b c d e f g j = first_that_holds (check 1 (a j) ∷ check 2 (b j) ∷ check 3 (c j) ∷ check 4 (d j) ∷ check 5 (e j) ∷ check 6 (f j) ∷ check 7 (g j) ∷ [])

-- no check holds: the letters are admitted, and the tone fits
all_pass : (a b c d e s t : Bool) → let five = check 1 a ∷ check 2 b ∷ check 3 c ∷ check 4 d ∷ check 5 e ∷ [] in
    eqb (first_that_holds (five ++ (check 6 (not s) ∷ check 7 (not t) ∷ []))) 0 ≡ (if_so (eqb (first_that_holds five) 0) s && t)
all_pass true b c d e s t = refl
all_pass false true c d e s t = refl
all_pass false false true d e s t = refl
all_pass false false false true e s t = refl
all_pass false false false false true s t = refl
all_pass false false false false false false t = refl
all_pass false false false false false true true = refl
all_pass false false false false false true false = refl

pub free_goes : (w : Letters) (tone : ℕ) → eqb (first_fault w tone true) 0 ≡ tone_goes tone w
unfolding admitted first_fault
free_goes w tone =
    all_pass (is_nil (nucleus w)) (not (one_of (initial w) initials)) (not (is_nil (leftovers w))) (not (fit (initial w) (first_base (nucleus w)))) (not (one_of (final w) finals)) (some_agrees (initial w) (nucleus w) (final w)) (fits (final w) tone)
