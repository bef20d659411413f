-- The places of keys asked about one after the other, from the first on: none is wrong exactly where those of the letters and that of the tone are in range.
use mathlib.Core.Path.{◌≡◌, refl, sym, ap, ap₂, ◌∙◌}
use mathlib.Core.Bool.{Bool, true, false, not, ◌&&◌, ◌||◌}
use mathlib.Core.List.{List, [], ◌∷◌}
use Prim.Native.Nat.{ℕ, zero, suc, ◌+◌, ◌-◌}
use native.Mathlib.Omega.{arith}
use borrow.Author.Tests.{ltb-true, ltb-false, lt-ltb, le-ltb, le-leb, lt-leb}
use lib.Dec.{eqb, ltb, leb}
use lib.ListN.{length, take}
use Rattle.rules.specs.TheWord.{no_key}
use Rattle.rules.specs.Refusals.{all, any, is_place, is_place_or_none}
use Rattle.records.specs.Numbers.{keys_for}

-- the two questions are the table's
not_place : (typed p : ℕ) → is_place typed p ≡ not (leb typed p)
not_place typed p = go (ltb p typed) refl
  where
    go : (b : Bool) → ltb p typed ≡ b → b ≡ not (leb typed p)
    go true e = ap not (sym (lt-leb typed p (ltb-true p typed e)))
    go false e = ap not (sym (le-leb typed p (ltb-false p typed e)))

pub not_place_or_none : (typed p : ℕ) → is_place_or_none typed p ≡ not (ltb typed (keys_for p))
not_place_or_none typed p = go (eqb p no_key)
  where
    go : (b : Bool) → (b || is_place typed p) ≡ not (ltb typed (elim b [ true ↦ 0 | false ↦ p + 1 ]))
    go true = ap not (sym (le-ltb typed 0 (omega arith)))
    go false = other (ltb p typed) refl
      where
        other : (b : Bool) → ltb p typed ≡ b → b ≡ not (ltb typed (p + 1))
        other true e = ap not (sym (le-ltb typed (p + 1) (omega (arith, ltb-true p typed e))))
        other false e = ap not (sym (lt-ltb typed (p + 1) (omega (arith, ltb-false p typed e))))

one_wrong : (x y a b : Bool) → ((x || y) || (not a || not b)) ≡ (not (not x && a) || not (not y && b))
one_wrong true y a b = refl
one_wrong false true true b = refl
one_wrong false true false b = refl
one_wrong false false a b = refl

more_wrong : (a b c : Bool) → ((a || b) || c) ≡ (a || (b || c))
more_wrong true b c = refl
more_wrong false b c = refl

none_more : (a : Bool) → (a || false) ≡ a
none_more true = refl
none_more false = refl

module _ (typed count : ℕ) where
  -- a wrong place of the letter at i, and of one from there on, whose places are the lists
  abbrev pub wrong_at : ℕ → ℕ → ℕ → Bool
  wrong_at i b s = ltb i count && (leb typed b || ltb typed (keys_for s))

  abbrev pub wrong_from : ℕ → List ℕ → List ℕ → Bool
  wrong_from i [] ss = false
  wrong_from i (b ∷ bs) [] = false
  wrong_from i (b ∷ bs) (s ∷ ss) = wrong_at i b s || wrong_from (i + 1) bs ss

  -- one place of each more, and none left
  pub one_more : (i b s : ℕ) {m n : ℕ} {xs ys bs ss : List ℕ} (wrong : Bool) {needed : ℕ} → m ≡ i → n ≡ i + 1 → xs ≡ b ∷ bs → ys ≡ s ∷ ss → needed ≡ keys_for s →
      ((wrong || (ltb m count && (leb typed b || ltb typed needed))) || wrong_from n bs ss) ≡ (wrong || wrong_from i xs ys)
  one_more i b s {bs = bs} {ss = ss} wrong d e p q k =
      (λ j. (wrong || (ltb (d j) count && (leb typed b || ltb typed (k j)))) || wrong_from (e j) bs ss) ∙ more_wrong wrong (wrong_at i b s) (wrong_from (i + 1) bs ss) ∙
      (λ j. wrong || wrong_from i (sym p j) (sym q j))

  pub none_left : (i : ℕ) {xs ys : List ℕ} (wrong : Bool) → xs ≡ [] → ys ≡ [] → (wrong || wrong_from i xs ys) ≡ wrong
  none_left i wrong p q = (λ j. wrong || wrong_from i (p j) (q j)) ∙ none_more wrong

  abbrev wrong_in : ℕ → List ℕ → List ℕ → Bool
  wrong_in n bs ss = not (all (is_place typed) (take n bs)) || not (all (is_place_or_none typed) (take n ss))

  from_is : (i : ℕ) (bs ss : List ℕ) → length bs ≡ length ss → wrong_from i bs ss ≡ wrong_in (count - i) bs ss
  from_is i [] [] h = go (count - i)
    where
      go : (n : ℕ) → false ≡ wrong_in n [] []
      go zero = refl
      go (suc n) = refl
  from_is i [] (s ∷ ss) h = absurd (omega (arith, h))
  from_is i (b ∷ bs) [] h = absurd (omega (arith, h))
  from_is i (b ∷ bs) (s ∷ ss) h = ap (λ (x : Bool). wrong_at i b s || x) (from_is (i + 1) bs ss (omega (arith, h))) ∙ go (ltb i count) refl
    where
      go : (p : Bool) → ltb i count ≡ p → ((p && (leb typed b || ltb typed (keys_for s))) || wrong_in (count - (i + 1)) bs ss) ≡ wrong_in (count - i) (b ∷ bs) (s ∷ ss)
      go true e =
          let m : count - i ≡ suc (count - (i + 1)) = omega (arith, ltb-true i count e) in
          one_wrong (leb typed b) (ltb typed (keys_for s)) _ _ ∙
          sym (ap₂ (λ (x y : Bool). not (x && all (is_place typed) (take (count - (i + 1)) bs)) || not (y && all (is_place_or_none typed) (take (count - (i + 1)) ss))) (not_place typed b) (not_place_or_none typed s)) ∙
          ap (λ (n : ℕ). wrong_in n (b ∷ bs) (s ∷ ss)) (sym m)
      go false e =
          let m : count - (i + 1) ≡ 0 = omega (arith, ltb-false i count e) in
          let n : 0 ≡ count - i = omega (arith, ltb-false i count e) in
          ap (λ (n : ℕ). wrong_in n bs ss) m ∙ ap (λ (n : ℕ). wrong_in n (b ∷ bs) (s ∷ ss)) n

  -- those of the letters, and that of the tone
  pub with_tone : (bs ss : List ℕ) (tone : ℕ) {wrong : Bool} {needed : ℕ} → length bs ≡ length ss → wrong ≡ wrong_from 0 bs ss → needed ≡ keys_for tone →
      wrong || ltb typed needed ≡ any (not (all (is_place typed) (take count bs)) ∷ not (all (is_place_or_none typed) (take count ss)) ∷ not (is_place_or_none typed tone) ∷ [])
  with_tone bs ss tone h e k =
      let z : count - 0 ≡ count = omega arith in
      ap₂ ◌||◌ (e ∙ from_is 0 bs ss h ∙ ap (λ (n : ℕ). wrong_in n bs ss) z) (ap (ltb typed) k ∙ twice (ltb typed (keys_for tone)) ∙ ap not (sym (not_place_or_none typed tone))) ∙
      more_wrong (not (all (is_place typed) (take count bs))) _ _
    where
      twice : (b : Bool) → b ≡ not (not b)
      twice true = refl
      twice false = refl
