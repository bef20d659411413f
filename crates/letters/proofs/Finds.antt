-- The search for a code point, one entry of the table after the other.
use Rattle.std.specs.Prelude.{Some, None}
use mathlib.Core.Path.{◌≡◌, refl, sym, ap, ◌∙◌}
use mathlib.Core.Bool.{Bool, true, false}
use mathlib.Core.List.{List, []}
use Prim.Native.Nat.{ℕ, ◌+◌, ◌*◌, ◌<◌, ◌≤◌, ◌/◌, ◌%◌}
use native.Mathlib.Numerals.{add-one}
use native.Mathlib.Omega.{arith}
use lib.ListN.{length, get_or, drop, drop_of_length-le}
use lib.Seq.{drop-cons}
use borrow.Author.Tests.{eq-eqb, ne_eqb}
use Rattle.rules.specs.TheWord.{number}
use Rattle.rules.specs.CodePoints.{capital_point}
use Rattle.rules.specs.Speller.{a_letter}
use Rattle.letters.specs.Rows.{point_table, letter_of, cased, sign_of}
use Rattle.letters.specs.Decoding.{found_in, found, read_as}
use Rattle.letters.proofs.Points.{entry_at, flat_entry}

pub not_stroke : (c : ℕ) → (c ≡ 0x111 → ⊥) → (c ≡ 0x110 → ⊥) → found c ≡ found_in c 0 point_table
unfolding found
not_stroke c h g = rw (found, ne_eqb c 0x111 h, ne_eqb c 0x110 g) refl

module _ (c : ℕ) (xs : List ℕ) (i : ℕ) (l : i < length xs) where
  at_small : get_or xs i 0 ≡ c → found_in c i (drop i xs) ≡ a_letter (sign_of false i)
  at_small e = rw (drop-cons xs i 0 l, found_in, eq-eqb (get_or xs i 0) c e)

  at_capital : (get_or xs i 0 ≡ c → ⊥) → capital_point (get_or xs i 0) ≡ c → found_in c i (drop i xs) ≡ a_letter (sign_of true i)
  at_capital h e = rw (drop-cons xs i 0 l, found_in, ne_eqb (get_or xs i 0) c h, eq-eqb (capital_point (get_or xs i 0)) c e)

  further : (get_or xs i 0 ≡ c → ⊥) → (capital_point (get_or xs i 0) ≡ c → ⊥) → found_in c i (drop i xs) ≡ found_in c (i + 1) (drop (i + 1) xs)
  further h g = rw (drop-cons xs i 0 l, found_in, ne_eqb (get_or xs i 0) c h, ne_eqb (capital_point (get_or xs i 0)) c g, add-one i)

-- what the loops return at an entry, by its row and its tone, and where they end
abbrev pub found_from : ℕ → ℕ → Type 0
found_from c i = found c ≡ found_in c i (drop i point_table)

module _ (c n r t : ℕ) (h : r < 12) (l : t < 6) (inv : found_from c (r * 6 + t)) where
  read : (b : Bool) → found c ≡ a_letter (sign_of b (r * 6 + t)) → {x : ℕ} → x ≡ number (cased b (letter_of r)) → Some (record { number = x; tone = t; length = n }) ≡ read_as n (found c)
  read b e d =
      let k : (r * 6 + t) / 6 ≡ r = omega arith in
      let m : (r * 6 + t) % 6 ≡ t = omega arith in
      (λ j. Some (record { number = (d ∙ ap (λ (r : ℕ). number (cased b (letter_of r))) (sym k)) j; tone = sym m j; length = n })) ∙ sym (ap (read_as n) e)

  pub small_read : entry_at r t ≡ c → {x : ℕ} → x ≡ number (cased false (letter_of r)) → Some (record { number = x; tone = t; length = n }) ≡ read_as n (found c)
  unfolding point_table
  small_read e = read false (inv ∙ at_small c point_table (r * 6 + t) (omega arith) (sym (flat_entry r t h l) ∙ e))

  pub capital_read : (entry_at r t ≡ c → ⊥) → capital_point (entry_at r t) ≡ c → {x : ℕ} → x ≡ number (cased false (letter_of r)) → Some (record { number = x + 2048; tone = t; length = n }) ≡ read_as n (found c)
  unfolding point_table
  capital_read g e d = read true (inv ∙ at_capital c point_table (r * 6 + t) (omega arith) (λ f. g (flat_entry r t h l ∙ f)) (rw (← flat_entry r t h l) e)) (omega arith)

  pub goes_on : (entry_at r t ≡ c → ⊥) → (capital_point (entry_at r t) ≡ c → ⊥) → found_from c (r * 6 + (t + 1))
  unfolding point_table
  goes_on g f =
      let e : r * 6 + t + 1 ≡ r * 6 + (t + 1) = omega arith in
      inv ∙ further c point_table (r * 6 + t) (omega arith) (λ k. g (flat_entry r t h l ∙ k)) (λ k. f (ap capital_point (flat_entry r t h l) ∙ k)) ∙ ap (λ (k : ℕ). found_in c k (drop k point_table)) e

pub not_read : (c n i : ℕ) → 72 ≤ i → found_from c i → None ≡ read_as n (found c)
unfolding point_table
not_read c n i l inv =
    let e : drop i point_table ≡ [] = drop_of_length-le point_table l in
    sym (ap (read_as n) (inv ∙ ap (found_in c i) e))
