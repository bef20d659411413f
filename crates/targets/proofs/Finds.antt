-- What the rules find is what stands at the places of the targets.
use Rattle.std.specs.Prelude.{Option, Some, None}
use mathlib.Core.Path.{◌≡◌, refl, ap, ap₂, ◌∙◌}
use mathlib.Core.Bool.{Bool, true, false, ◌&&◌}
use mathlib.Core.List.{[], ◌∷◌}
use Prim.Native.Nat.{ℕ, suc, ◌+◌}
use lib.Dec.{eqb}
use lib.ListN.{length}
use Rattle.rules.specs.Letters.{Letter, Letters, plain, horn}
use Rattle.rules.specs.KeyRoles.{shaped, Found, one_further, behind, or_else, if_so, target, here, last, is_q, is_o, horns_o_alone, pair_here, pair, single, horned, is_pair, is_single}
use Rattle.rules.specs.declared.Touched.{Touched}
use Rattle.rules.specs.declared.Touched.TheVariants.{OneLetter, TwoLetters}
use Rattle.targets.specs.Places.{next, or_this, here_or, last_place, pair_place, single_place}
use Rattle.targets.specs.Aims.{shape_at, one_at, pair_at}
use Rattle.targets.proofs.Waits.{o_at_end}

behind_target : (c : Bool) (g : Touched) (x : Letter) (v w : Letters) → behind x (target c g v w) ≡ target c (one_further g) (x ∷ v) (x ∷ w)
behind_target true g x v w = refl
behind_target false g x v w = refl

or_target : (c : Bool) (g : Touched) (v w : Letters) (f : Found) → or_else (target c g v w) f ≡ target c g v w
or_target true g v w f = refl
or_target false g v w f = refl

-- one letter further on
one_next : (sh : ℕ) (p : Option ℕ) (x : Letter) (xs : Letters) → behind x (one_at sh p xs) ≡ one_at sh (next p) (x ∷ xs)
one_next sh None x xs = refl
one_next sh (Some i) x xs = behind_target (eqb (shape_at i xs) sh) (OneLetter i) x _ _

pair_next : (p : Option ℕ) (x : Letter) (xs : Letters) → behind x (pair_at p xs) ≡ pair_at (next p) (x ∷ xs)
pair_next None x xs = refl
pair_next (Some i) x xs = behind_target (eqb (shape_at i xs) horn && eqb (shape_at (suc i) xs) horn) (TwoLetters i) x _ _

-- the last letter with a wanted base
pub last_is : (want : ℕ → Bool) (sh : ℕ) (xs : Letters) → last want sh xs ≡ one_at sh (last_place want xs) xs
last_is want sh [] = refl
last_is want sh (x ∷ xs) =
    ap (λ (f : Found). or_else (behind x f) (if_so (want x.base) (here sh x xs))) (last_is want sh xs) ∙ go (last_place want xs) (want x.base)
  where
    go : (p : Option ℕ) (c : Bool) → or_else (behind x (one_at sh p xs)) (if_so c (here sh x xs)) ≡ one_at sh (or_this p c) (x ∷ xs)
    go (Some i) c = ap (λ (f : Found). or_else f (if_so c (here sh x xs))) (one_next sh (Some i) x xs) ∙ or_target (eqb (shape_at i xs) sh) _ _ _ _
    go None true = refl
    go None false = refl

-- the first o or u not directly after q
pub single_is : (q : Bool) (xs : Letters) → single q xs ≡ one_at horn (single_place q xs) xs
single_is q [] = refl
single_is q (x ∷ xs) =
    ap (λ (f : Found). or_else (if_so (is_single q x.base) (here horn x xs)) (behind x f)) (single_is (is_q x) xs) ∙ go (is_single q x.base) (single_place (is_q x) xs)
  where
    go : (c : Bool) (p : Option ℕ) → or_else (if_so c (here horn x xs)) (behind x (one_at horn p xs)) ≡ one_at horn (here_or c p) (x ∷ xs)
    go true p = or_target (eqb x.shape horn) _ _ _ _
    go false p = one_next horn p x xs

-- the first u followed directly by o, the u not directly after q
pub pair_is : (q : Bool) (xs : Letters) → pair q xs ≡ pair_at (pair_place q xs) xs
pair_is q [] = refl
pair_is q (x ∷ []) = refl
pair_is q (x ∷ z ∷ zs) =
    ap (λ (f : Found). or_else (pair_here q x (z ∷ zs)) (behind x f)) (pair_is (is_q x) (z ∷ zs)) ∙ go (is_pair q x.base z.base) (pair_place (is_q x) (z ∷ zs))
  where
    go : (c : Bool) (p : Option ℕ) →
        or_else (if_so c (target (eqb x.shape horn && eqb z.shape horn) (TwoLetters 0) (shaped plain x ∷ shaped plain z ∷ zs) (shaped horn x ∷ shaped horn z ∷ zs))) (behind x (pair_at p (z ∷ zs))) ≡ pair_at (here_or c p) (x ∷ z ∷ zs)
    go true p = or_target (eqb x.shape horn && eqb z.shape horn) _ _ _ _
    go false p = pair_next p x (z ∷ zs)

-- horn: of huo the o at its end; else the pair; with no such pair the single letter; or nothing
module _ (xs : Letters) where
  horn_at : {alone : Bool} → horns_o_alone xs ≡ alone → horned xs ≡ or_else (if_so alone (last is_o horn xs)) (or_else (pair_at (pair_place false xs) xs) (one_at horn (single_place false xs) xs))
  horn_at a j = or_else (if_so (a j) (last is_o horn xs)) (or_else (pair_is false xs j) (single_is false xs j))

  pub horned_alone : (n : ℕ) → horns_o_alone xs ≡ true → length xs ≡ n + 1 → horned xs ≡ one_at horn (Some n) xs
  horned_alone n a e =
      horn_at a ∙ ap (λ (f : Found). or_else f (or_else (pair_at (pair_place false xs) xs) (one_at horn (single_place false xs) xs))) (last_is is_o horn xs ∙ ap (λ (p : Option ℕ). one_at horn p xs) (o_at_end xs a n e)) ∙
      or_target (eqb (shape_at n xs) horn) _ _ _ _

  pub horned_pair : {i : ℕ} → horns_o_alone xs ≡ false → pair_place false xs ≡ Some i → horned xs ≡ pair_at (Some i) xs
  horned_pair {i} a e =
      horn_at a ∙ ap (λ (p : Option ℕ). or_else (pair_at p xs) (one_at horn (single_place false xs) xs)) e ∙ or_target (eqb (shape_at i xs) horn && eqb (shape_at (suc i) xs) horn) _ _ _ _

  pub horned_single : {p : Option ℕ} → horns_o_alone xs ≡ false → pair_place false xs ≡ None → single_place false xs ≡ p → horned xs ≡ one_at horn p xs
  horned_single a e f = horn_at a ∙ ap₂ (λ (p q : Option ℕ). or_else (pair_at p xs) (one_at horn q xs)) e f
