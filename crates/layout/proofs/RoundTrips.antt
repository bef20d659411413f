-- What is written of a record is read back as it; and what is read of 169 bytes with a mark of 0 or 1 is written back as they were.
use Rattle.std.specs.Prelude.{is_some, Some}
use mathlib.Core.Path.{◌≡◌, refl, sym, ap, ap₂, ◌∙◌}
use mathlib.Core.Bool.{Bool, true, false, ◌&&◌}
use mathlib.Core.List.{List, [], ◌∷◌, ◌++◌, append_assoc}
use Prim.Native.Nat.{ℕ, zero, suc, ◌+◌, ◌*◌, ◌/◌, ◌%◌}
use native.Mathlib.Omega.{arith}
use borrow.Author.Tests.{eq-eqb, eqb-true}
use lib.Dec.{T, eqb, ltb, ltb→lt}
use lib.Ieee.Fits.{and_i, and_l, and_r}
use lib.ListN.{length, take, drop, length-drop}
use lib.Seq.{take-add, take_all, take_at, drop_at, drop-drop, set-get_or, get_or-drop}
use Rattle.rules.specs.Letters.{telex}
use Rattle.rules.specs.Refusals.{all}
use Rattle.rules.specs.TheWord.{new_word}
use Rattle.rules.specs.declared.Word.{Word}
use Rattle.rules.proofs.StaysInRange.{Whole}
use Rattle.layout.specs.Places.{pairs, numbers, mark_byte, bytes_with, as_bytes, byte, part, is_long, is_mark, word_from, record_if, as_record, is_record, held, or_new}
use Rattle.layout.proofs.Pairs.{length_numbers, length_pairs}
use Rattle.layout.proofs.Answers.{with_parts, length_part, last_byte, no_mark, eight}

numbers_pairs : (ns : List ℕ) → numbers (pairs ns) ≡ ns
numbers_pairs [] = refl
numbers_pairs (n ∷ ns) = let e : n % 256 + 256 * (n / 256) ≡ n = omega arith in ap₂ ◌∷◌ e (numbers_pairs ns)

abbrev pub is_byte : ℕ → Bool
is_byte n = ltb n 256

pairs_numbers : (n : ℕ) (bs : List ℕ) → length bs ≡ 2 * n → T (all is_byte bs) → pairs (numbers bs) ≡ bs
pairs_numbers n [] e t = refl
pairs_numbers n (a ∷ []) e t = absurd (omega arith)
pairs_numbers zero (a ∷ b ∷ bs) e t = absurd (omega arith)
pairs_numbers (suc n) (a ∷ b ∷ bs) e t =
    let small = ltb→lt a 256 (and_l (is_byte a) (all is_byte (b ∷ bs)) t) in
    let more = and_r (is_byte a) (all is_byte (b ∷ bs)) t in
    let low : (a + 256 * b) % 256 ≡ a = omega arith in
    let high : (a + 256 * b) / 256 ≡ b = omega arith in
    ap₂ (λ (x y : ℕ). x ∷ y ∷ pairs (numbers bs)) low high ∙ ap (λ (l : List ℕ). a ∷ b ∷ l) (pairs_numbers n bs (omega arith) (and_r (is_byte b) (all is_byte bs) more))

is_mark_law : (b : Bool) → is_mark (mark_byte b) ≡ true
is_mark_law true = refl
is_mark_law false = refl

mark_read : (b : Bool) → eqb (mark_byte b) 1 ≡ b
mark_read true = refl
mark_read false = refl

mark_written : (m : ℕ) → is_mark m ≡ true → mark_byte (eqb m 1) ≡ m
mark_written zero e = refl
mark_written (suc zero) e = refl
mark_written (suc (suc m)) e =
    let f = no_mark (suc (suc m)) (omega arith) in
    let z : ◌≡◌ {A = ℕ} 0 1 = cc in
    absurd (omega arith)

-- of what stands from a place on: its front is the part there, and the rest stands behind that part
peeled : (bs : List ℕ) (place many : ℕ) (front rest : List ℕ) → drop place bs ≡ front ++ rest → length front ≡ many → (part place many bs ≡ front) × (drop (place + many) bs ≡ rest)
peeled bs place many front rest e l =
    (ap (take many) e ∙ take_at front rest many l, sym (drop-drop many place bs) ∙ ap (drop many) e ∙ drop_at front rest many l)

pub written_read : (w : Word) → Whole w → as_record (as_bytes w) ≡ Some w
unfolding as_record
written_read w whole =
    let bs = as_bytes w in
    let past_by = w.shaped_by ++ w.toned_by ∷ [] in
    let past_letters = w.appended_by ++ past_by in
    let past_keys = pairs w.letters ++ past_letters in
    let past_head : w.keys ++ pairs w.letters ++ w.appended_by ++ w.shaped_by ++ w.toned_by ∷ [] ≡ w.keys ++ past_keys = simp append_assoc in
    let keys = peeled bs 8 32 w.keys past_keys past_head whole.keys in
    let letters = peeled bs 40 64 (pairs w.letters) past_letters keys.1 (length_pairs w.letters ∙ omega (arith, whole.letters)) in
    let by = peeled bs 104 32 w.appended_by past_by letters.1 whole.by in
    let shaped = peeled bs 136 32 w.shaped_by (w.toned_by ∷ []) by.1 whole.shaped_by in
    let toned : byte 168 bs ≡ w.toned_by = sym (get_or-drop 168 bs 0 0) ∙ ap (byte 0) shaped.1 in
    let one : length (drop 168 bs) ≡ 1 = ap (λ (l : List ℕ). length l) shaped.1 in
    let long : length bs ≡ 169 = omega (arith, length-drop 168 bs, one) in
    ap₂ (λ (l m : Bool). record_if (l && m) bs) (eq-eqb (length bs) 169 long) (is_mark_law w.closed) ∙
    (λ i. Some (with_parts w (mark_read w.closed i) (keys.0 i) ((ap numbers letters.0 ∙ numbers_pairs w.letters) i) (by.0 i) (shaped.0 i) (toned i)))

all_first : (n : ℕ) (bs : List ℕ) → T (all is_byte bs) → T (all is_byte (take n bs))
all_first zero bs t = tt
all_first (suc n) [] t = tt
all_first (suc n) (b ∷ bs) t =
    and_i (is_byte b) (all is_byte (take n bs)) (and_l (is_byte b) (all is_byte bs) t) (all_first n bs (and_r (is_byte b) (all is_byte bs) t))

all_past : (n : ℕ) (bs : List ℕ) → T (all is_byte bs) → T (all is_byte (drop n bs))
all_past zero bs t = t
all_past (suc n) [] t = t
all_past (suc n) (b ∷ bs) t = all_past n bs (and_r (is_byte b) (all is_byte bs) t)

-- a part more of the first places
joined : (bs : List ℕ) (place many : ℕ) {front new : List ℕ} → front ≡ take place bs → new ≡ part place many bs → front ++ new ≡ take (place + many) bs
joined bs place many p q = ap₂ ◌++◌ p q ∙ sym (take-add place many bs)

module _ (bs : List ℕ) (long : length bs ≡ 169) where
  in_order : byte 0 bs ∷ byte 1 bs ∷ byte 2 bs ∷ byte 3 bs ∷ byte 4 bs ∷ byte 5 bs ∷ byte 6 bs ∷ byte 7 bs ∷ drop 8 bs ≡ bs
  in_order = sym (eight (byte 0 bs) (byte 1 bs) (byte 2 bs) (byte 3 bs) (byte 4 bs) (byte 5 bs) (byte 6 bs) (byte 7 bs) bs (omega arith)) ∙ simp set-get_or

  -- the bytes of the letters as they stand, and all else of the record that is read
  in_place : is_mark (byte 3 bs) ≡ true → bytes_with (part 40 64 bs) (word_from bs) ≡ bs
  in_place m =
      let head = ap (λ (n : ℕ). byte 0 bs ∷ byte 1 bs ∷ byte 2 bs ∷ n ∷ byte 4 bs ∷ byte 5 bs ∷ byte 6 bs ∷ byte 7 bs ∷ []) (mark_written (byte 3 bs) m) ∙ ap (take 8) in_order in
      let last = sym (ap (take 1) (last_byte 168 bs long)) in
      joined bs 168 1 (joined bs 136 32 (joined bs 104 32 (joined bs 40 64 (joined bs 8 32 head refl) refl) refl) refl) last ∙ take_all 169 bs (omega arith)

  written_back : is_mark (byte 3 bs) ≡ true → T (all is_byte bs) → as_bytes (word_from bs) ≡ bs
  written_back m t =
      let letters = pairs_numbers 32 (part 40 64 bs) (length_part 40 64 bs (omega arith)) (all_first 64 (drop 40 bs) (all_past 40 bs t)) in
      ap (λ (l : List ℕ). bytes_with l (word_from bs)) letters ∙ in_place m

-- what holds of every record that is read
module _ (bs : List ℕ) (P : Word → Type 0) (h : length bs ≡ 169 → is_mark (byte 3 bs) ≡ true → P (word_from bs)) where
  of_record : is_record bs ≡ true → P (held bs)
  unfolding as_record
  of_record r = go (is_long bs) (is_mark (byte 3 bs)) refl refl r
    where
      go : (l m : Bool) → is_long bs ≡ l → is_mark (byte 3 bs) ≡ m → (is_some (record_if (l && m) bs)) ≡ true → P (or_new (record_if (l && m) bs))
      go true true p q e = h (eqb-true (length bs) 169 p) q
      go true false p q e = let z : ◌≡◌ {A = ℕ} 0 1 = cc in absurd (omega arith)
      go false m p q e = let z : ◌≡◌ {A = ℕ} 0 1 = cc in absurd (omega arith)

pub read_written : (bs : List ℕ) → is_record bs ≡ true → T (all is_byte bs) → as_bytes (held bs) ≡ bs
read_written bs r t = of_record bs (λ w. as_bytes w ≡ bs) (λ long m. written_back bs long m t) r

pub read_in_place : (bs : List ℕ) → is_record bs ≡ true → bytes_with (part 40 64 bs) (held bs) ≡ bs
read_in_place bs r = of_record bs (λ w. bytes_with (part 40 64 bs) w ≡ bs) (in_place bs) r

pub read_parts : (bs : List ℕ) → is_record bs ≡ true → held bs ≡ word_from bs
read_parts bs r = of_record bs (λ w. w ≡ word_from bs) (λ long m. refl) r

pub read_long : (bs : List ℕ) → is_record bs ≡ true → length bs ≡ 169
read_long bs r = of_record bs (λ w. length bs ≡ 169) (λ long m. long) r

-- a record that is read has room for 32 letters, with the places of their keys, and 32 keys
pub read_whole : (bs : List ℕ) → Whole (held bs)
unfolding as_record
read_whole bs = go (is_long bs) (is_mark (byte 3 bs)) refl
  where
    new : Whole (new_word telex)
    new = record { letters = refl; by = refl; shaped_by = refl; keys = refl }

    go : (b m : Bool) → is_long bs ≡ b → Whole (or_new (record_if (b && m) bs))
    go true true e =
        let long = eqb-true (length bs) 169 e in
        record {
          letters = length_numbers 32 (part 40 64 bs) (length_part 40 64 bs (omega (arith, long)));
          by = length_part 104 32 bs (omega (arith, long));
          shaped_by = length_part 136 32 bs (omega (arith, long));
          keys = length_part 8 32 bs (omega (arith, long));
        }
    go true false e = new
    go false m e = new
