-- The conditions of refusal 8 in the order in which the code asks them.
use mathlib.Core.Path.{◌≡◌, refl, ap, ap₂, sym, ◌∙◌}
use mathlib.Core.Bool.{Bool, true, false, not, ◌&&◌, ◌||◌}
use mathlib.Core.List.{List, [], ◌∷◌}
use Prim.Native.Nat.{ℕ, ◌+◌, ◌≤◌}
use native.Mathlib.Omega.{arith}
use borrow.Author.Tests.{le-ltb, ltb-false, eqb-true}
use lib.Dec.{eqb, ltb}
use Rattle.rules.specs.Letters.{dot}
use lib.ListN.{take}
use Rattle.std.specs.List.{list_all}
use Rattle.rules.specs.TheWord.{most_keys, letter}
use Rattle.rules.specs.KeyRoles.{is_key}
use Rattle.rules.specs.Refusals.{all, any, all_letters, is_mode, counts_over, letter_allowed, shape_carried, no_capital_digit, out_of_range}
use Rattle.rules.specs.declared.Word.{Word}
use Rattle.letters.specs.Writing.{is_letter}
use Rattle.records.specs.Numbers.{numbers_wrong, places_wrong}

-- the library's question of a list is the table's
pub all_is : (f : ℕ → Bool) (xs : List ℕ) → list_all f xs ≡ all f xs
all_is f [] = refl
all_is f (x ∷ xs) = ap (◌&&◌ (f x)) (all_is f xs)

-- the three questions on letters as one
all_three : (mode : ℕ) (ns : List ℕ) → all (is_letter mode) ns ≡ (all (letter_allowed mode) ns && (all_letters shape_carried ns && all_letters no_capital_digit ns))
all_three mode [] = refl
all_three mode (n ∷ ns) =
    ap (◌&&◌ (is_letter mode n)) (all_three mode ns) ∙
    go (letter_allowed mode n) (shape_carried (letter n)) (no_capital_digit (letter n)) (all (letter_allowed mode) ns) (all_letters shape_carried ns) (all_letters no_capital_digit ns)
  where
    go : (a b c d e f : Bool) → ((a && (b && c)) && (d && (e && f))) ≡ ((a && d) && ((b && e) && (c && f)))
    go true true true d e f = refl
    go true true false true true f = refl
    go true true false true false f = refl
    go true true false false e f = refl
    go true false c true e f = refl
    go true false c false e f = refl
    go false b c d e f = refl

-- the conditions in another order: those on the numbers first, and those on the places last
numbers_before : (k a b c x p : Bool) → (k || (a || (b || (c || (x || p))))) ≡ (x || (k || ((a || (b || c)) || p)))
numbers_before true a b c true p = refl
numbers_before true a b c false p = refl
numbers_before false true b c true p = refl
numbers_before false true b c false p = refl
numbers_before false false true c true p = refl
numbers_before false false true c false p = refl
numbers_before false false false true true p = refl
numbers_before false false false true false p = refl
numbers_before false false false false x p = refl

numbers_first : (o f s k a b c t m p : Bool) → (o || (f || (s || (k || (a || (b || (c || (t || (m || p))))))))) ≡ ((o || (f || (s || (t || m)))) || (k || ((a || (b || c)) || p)))
numbers_first true f s k a b c t m p = refl
numbers_first false true s k a b c t m p = refl
numbers_first false false true k a b c t m p = refl
numbers_first false false false k a b c true m p = numbers_before k a b c true (m || p)
numbers_first false false false k a b c false m p = numbers_before k a b c m p

not_three : (a b c : Bool) → (not a || (not b || not c)) ≡ not (a && (b && c))
not_three true true c = refl
not_three true false c = refl
not_three false b c = refl

-- those on the numbers and on the places, which are asked together, before those on keys and letters
places_first : (n k l p : Bool) → (n || (k || (l || p))) ≡ ((n || p) || (k || l))
places_first true k l p = refl
places_first false true l true = refl
places_first false true l false = refl
places_first false false true true = refl
places_first false false true false = refl
places_first false false false true = refl
places_first false false false false = refl

range_is : (w : Word) → out_of_range w ≡ ((numbers_wrong w || places_wrong w) || (not (all (is_key w.mode) (take w.typed w.keys)) || not (all (is_letter w.mode) (take w.count w.letters))))
unfolding out_of_range
range_is w =
    let ns = take w.count w.letters in
    let ks = not (all (is_key w.mode) (take w.typed w.keys)) in
    numbers_first (any (counts_over w)) (ltb w.typed w.count) (not (eqb (w.acted + w.undone + w.appended) w.typed)) ks
    (not (all (letter_allowed w.mode) ns)) (not (all_letters shape_carried ns)) (not (all_letters no_capital_digit ns)) (ltb dot w.tone) (not (is_mode w.mode)) (places_wrong w) ∙
    ap (λ (b : Bool). numbers_wrong w || (ks || (b || places_wrong w)))
    (not_three (all (letter_allowed w.mode) ns) (all_letters shape_carried ns) (all_letters no_capital_digit ns) ∙ ap not (sym (all_three w.mode ns))) ∙
    places_first (numbers_wrong w) ks (not (all (is_letter w.mode) ns)) (places_wrong w)

or-false : (p q : Bool) → p || q ≡ false → (p ≡ false) × (q ≡ false)
or-false true q e = let z : ◌≡◌ {A = ℕ} 0 1 = cc in absurd (omega arith)
or-false false q e = (refl, e)

-- no more than 32 keys, no more letters than keys, and a sum that is the keys: then no count is over 32
or-true : (p : Bool) → true ≡ p || true
or-true true = refl
or-true false = refl

in_a_row : (a b c d e : Bool) → ((((a || b) || c) || d) || e) ≡ (a || (b || (c || (d || e))))
in_a_row true b c d e = refl
in_a_row false true c d e = refl
in_a_row false false true d e = refl
in_a_row false false false d e = refl

module _ (t c a u p : ℕ) (x : Bool) where
  abbrev others : Bool
  others = ltb most_keys c || (ltb most_keys a || (ltb most_keys u || ltb most_keys p))

  by_sum : (k f s : Bool) → ltb most_keys t ≡ k → ltb t c ≡ f → eqb (a + u + p) t ≡ s → (k || (f || (not s || x))) ≡ ((k || others) || (f || (not s || x)))
  by_sum true f s ek ef es = refl
  by_sum false true s ek ef es = or-true others
  by_sum false false false ek ef es = or-true others
  by_sum false false true ek ef es =
      let few = ltb-false most_keys t ek in
      let letters = ltb-false t c ef in
      let sum = eqb-true (a + u + p) t es in
      rw (le-ltb most_keys c (omega arith), le-ltb most_keys a (omega arith), le-ltb most_keys u (omega arith), le-ltb most_keys p (omega arith))

module _ (w : Word) where
  pub counts_by_sum : ((((ltb most_keys w.typed || ltb w.typed w.count) || not (eqb (w.acted + w.undone + w.appended) w.typed)) || ltb dot w.tone) || not (is_mode w.mode)) ≡ numbers_wrong w
  counts_by_sum =
      in_a_row (ltb most_keys w.typed) (ltb w.typed w.count) _ _ _ ∙ by_sum w.typed w.count w.acted w.undone w.appended (ltb dot w.tone || not (is_mode w.mode)) _ _ _ refl refl refl

  -- counts in order are at most 32
  module _ (e : numbers_wrong w ≡ false) where
    in_order : any (counts_over w) ≡ false
    in_order = (or-false (any (counts_over w)) _ e).0

    typed_small : w.typed ≤ most_keys
    typed_small = ltb-false most_keys w.typed (or-false (ltb most_keys w.typed) _ in_order).0

    count_small : w.count ≤ most_keys
    count_small = ltb-false most_keys w.count (or-false (ltb most_keys w.count) _ (or-false (ltb most_keys w.typed) _ in_order).1).0

-- the range by the questions, one after the other: of the numbers and the places of keys, of the kept keys, of the letters
module _ (w : Word) {a b : Bool} (nw : a ≡ numbers_wrong w) (pw : b ≡ places_wrong w) where
  by_both : {c : Bool} → (a || b) ≡ c → (numbers_wrong w || places_wrong w) ≡ c
  by_both e = sym (ap₂ ◌||◌ nw pw) ∙ e

  pub by_numbers : (a || b) ≡ true → out_of_range w ≡ true
  by_numbers e = rw (range_is w, by_both e)

  module _ (e : (a || b) ≡ false) where
    pub few : (w.typed ≤ most_keys) × (w.count ≤ most_keys)
    few = let f = sym nw ∙ (or-false a b e).0 in (typed_small w f, count_small w f)

    module _ {r : Bool} (k : r ≡ all (is_key w.mode) (take w.typed w.keys)) where
      pub by_keys : r ≡ false → out_of_range w ≡ true
      by_keys f = rw (range_is w, by_both e, sym k, f)

      pub by_letters : r ≡ true → {own : List ℕ} → own ≡ w.letters → {q : Bool} → q ≡ all (is_letter w.mode) (take w.count own) → out_of_range w ≡ not q
      by_letters t o l = rw (range_is w, by_both e, sym k, t, sym o, sym l)
