-- A word that is one of some words: what their bases pass, its bases pass; and where they all end in one letter, it ends in it and is one of them without it.
use mathlib.Core.Path.{◌≡◌, refl, sym, ap, ap₂, subst, ◌∙◌}
use mathlib.Core.Bool.{Bool, true, false, ◌&&◌}
use mathlib.Core.List.{List, [], ◌∷◌, ◌++◌, map}
use Prim.Native.Nat.{ℕ}
use lib.Dec.{T, eqb, eqb→eq}
use lib.Ieee.Fits.{and_l, and_r}
use Rattle.rules.specs.Letters.{Letter, Letters, is, same, one_of}
use Rattle.rules.proofs.Bools.{pick, if_so, only, never, and_false, and_if, either}

abbrev pub bases : Letters → List ℕ
bases w = map (λ x. x.base) w

same_bases : (v w : Letters) → T (same v w) → bases v ≡ bases w
same_bases [] [] t = refl
same_bases (x ∷ v) (z ∷ w) t =
    let (i, s) = and_if (is x z) (same v w) t in
    ap₂ ◌∷◌ (eqb→eq x.base z.base (and_l (eqb x.base z.base) (eqb x.shape z.shape) i)) (same_bases v w s)
same_bases [] (z ∷ w) t = elim t [ ]
same_bases (x ∷ v) [] t = elim t [ ]

abbrev every : (List ℕ → Bool) → List Letters → Bool
every g [] = true
every g (z ∷ zs) = g (bases z) && every g zs

pub of_words : (g : List ℕ → Bool) (w : Letters) (zs : List Letters) → T (every g zs) → T (one_of w zs) → T (g (bases w))
of_words g w (z ∷ zs) h t =
    let more = of_words g w zs (and_r (g (bases z)) (every g zs) h) in
    either (same w z) (one_of w zs) (λ s. rw (same_bases w z s) (and_l (g (bases z)) (every g zs) h)) more t
of_words g w [] h t = elim t [ ]

-- the last letter
abbrev pub ended_by : Letter → List Letters → List Letters
ended_by y zs = map (λ z. z ++ (y ∷ [])) zs

empty_ended : (z : Letters) (y : Letter) → same [] (z ++ (y ∷ [])) ≡ false
empty_ended [] y = refl
empty_ended (a ∷ z) y = refl

ended_empty : (v : Letters) (x : Letter) → same (v ++ (x ∷ [])) [] ≡ false
ended_empty [] x = refl
ended_empty (a ∷ v) x = refl

same_ended : (v z : Letters) (x y : Letter) → same (v ++ (x ∷ [])) (z ++ (y ∷ [])) ≡ if_so (same v z) (is x y)
same_ended [] [] x y = sym (only (is x y))
same_ended [] (a ∷ z) x y = ap (if_so (is x a)) (empty_ended z y) ∙ sym (never (is x a))
same_ended (a ∷ v) [] x y = ap (if_so (is a y)) (ended_empty v x) ∙ sym (never (is a y))
same_ended (a ∷ v) (c ∷ z) x y = ap (if_so (is a c)) (same_ended v z x y) ∙ go (is a c)
  where
    go : (b : Bool) → if_so b (if_so (same v z) (is x y)) ≡ if_so (if_so b (same v z)) (is x y)
    go true = refl
    go false = refl

pub one_ended : (v : Letters) (x y : Letter) (zs : List Letters) → one_of (v ++ (x ∷ [])) (ended_by y zs) ≡ (is x y && one_of v zs)
one_ended v x y [] = and_false (is x y)
one_ended v x y (z ∷ zs) = ap₂ (pick true) (same_ended v z x y) (one_ended v x y zs) ∙ go (same v z) (is x y) (one_of v zs)
  where
    go : (s i o : Bool) → pick true (if_so s i) (i && o) ≡ (i && pick true s o)
    go true true o = refl
    go true false o = refl
    go false i o = refl

pub empty_one : (y : Letter) (zs : List Letters) → false ≡ one_of [] (ended_by y zs)
empty_one y [] = refl
empty_one y (z ∷ zs) = ap (λ (b : Bool). pick true b false) (sym (empty_ended z y)) ∙ ap (pick true (same [] (z ++ (y ∷ [])))) (empty_one y zs)

pub record Ended (w : Letters) (y : Letter) (zs : List Letters) : Type 0 where
  pub front : Letters
  pub last : Letter
  pub word : w ≡ front ++ (last ∷ [])
  pub is_last : T (is last y)
  pub is_front : T (one_of front zs)

-- a word is empty, or has a last letter
data Last : Letters → Type 0 where
  none : Last []
  this : (v : Letters) (x : Letter) → Last (v ++ (x ∷ []))

last_of : (w : Letters) → Last w
last_of [] = none
last_of (x ∷ w) = go (last_of w)
  where
    go : {w : Letters} → Last w → Last (x ∷ w)
    go none = this [] x
    go (this v y) = this (x ∷ v) y

pub ended : (y : Letter) (zs : List Letters) (w : Letters) → T (one_of w (ended_by y zs)) → Ended w y zs
ended y zs w t = go (last_of w) t
  where
    go : {w : Letters} → Last w → T (one_of w (ended_by y zs)) → Ended w y zs
    go none t = absurd (subst T (sym (empty_one y zs)) t)
    go (this v x) t =
        let b = subst T (one_ended v x y zs) t in
        record { front = v; last = x; word = refl; is_last = and_l (is x y) (one_of v zs) b; is_front = and_r (is x y) (one_of v zs) b }
