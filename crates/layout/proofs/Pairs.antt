-- Numbers as pairs of bytes, one by one: one turn of each loop, and its end.
use mathlib.Core.Path.{◌≡◌, refl, sym, ap, ap₂, ◌∙◌}
use mathlib.Core.List.{List, [], ◌∷◌, ◌++◌, append_assoc}
use Prim.Native.Nat.{ℕ, zero, suc, ◌+◌, ◌*◌, ◌/◌, ◌%◌, ◌^◌, ◌≤◌, ◌<◌}
use native.Mathlib.Omega.{arith}
use Rattle.std.specs.Int.{from_le_bytes}
use Rattle.std.specs.Simd.{first_chunks}
use Rattle.std.proofs.Common.{w16}
use lib.ListN.{length, get_or, take, set, length-set}
use lib.Seq.{take_all, take-suc, take-suc-set}
use Rattle.layout.specs.Places.{pairs, numbers}

pub length_numbers : (n : ℕ) (bs : List ℕ) → length bs ≡ 2 * n → length (numbers bs) ≡ n
length_numbers zero [] e = refl
length_numbers zero (a ∷ bs) e = absurd (omega arith)
length_numbers (suc n) [] e = absurd (omega arith)
length_numbers (suc n) (a ∷ []) e = absurd (omega arith)
length_numbers (suc n) (a ∷ b ∷ bs) e = ap suc (length_numbers n bs (omega arith))

pub number_at : (i : ℕ) (bs : List ℕ) → 2 * i + 1 < length bs → get_or (numbers bs) i 0 ≡ get_or bs (2 * i) 0 + 256 * get_or bs (2 * i + 1) 0
number_at i [] h = absurd (omega arith)
number_at i (a ∷ []) h = absurd (omega arith)
number_at zero (a ∷ b ∷ bs) h = refl
number_at (suc i) (a ∷ b ∷ bs) h =
    let p : 2 * suc i ≡ suc (suc (2 * i)) = omega arith in
    let q : 2 * suc i + 1 ≡ suc (suc (2 * i + 1)) = omega arith in
    number_at i bs (omega arith) ∙ sym (ap₂ (λ (m n : ℕ). get_or (a ∷ b ∷ bs) m 0 + 256 * get_or (a ∷ b ∷ bs) n 0) p q)

-- two bytes as a number, and the high byte of a number
of_two : (a b : ℕ) → from_le_bytes w16 (a ∷ b ∷ []) ≡ a + 256 * b
of_two a b = omega arith

pub high_byte : (n : ℕ) → n < 2 ^ 16 → n / 256 % 256 ≡ n / 256
high_byte n h = omega arith

-- and as the numbers of the chunks of two
chunk_at : (k i : ℕ) (bs : List ℕ) → i < k → length bs ≡ 2 * k → get_or (numbers bs) i 0 ≡ from_le_bytes w16 (get_or (first_chunks 2 k bs) i [])
chunk_at (suc k) i [] h e = absurd (omega arith)
chunk_at (suc k) i (a ∷ []) h e = absurd (omega arith)
chunk_at (suc k) zero (a ∷ b ∷ bs) h e = sym (of_two a b)
chunk_at (suc k) (suc i) (a ∷ b ∷ bs) h e = chunk_at k i bs (omega arith) (omega arith)
chunk_at zero i bs h e = absurd (omega arith)

-- so far: the first numbers are read
pub record ReadSoFar (bs : List ℕ) (i : ℕ) (letters : List ℕ) : Type 0 where
  pub passed : i ≤ 32
  pub places : length letters ≡ 32
  pub front : take i letters ≡ take i (numbers bs)

module _ (bs : List ℕ) (long : length bs ≡ 64) where
  pub read_on : (twos : List (List ℕ)) → twos ≡ first_chunks 2 (length bs / 2) bs → (i x : ℕ) (letters : List ℕ) → ReadSoFar bs i letters → i < 32 → x ≡ from_le_bytes w16 (get_or twos i []) → ReadSoFar bs (i + 1) (set letters i x)
  read_on twos t i x letters so h e =
      let half : length bs / 2 ≡ 32 = omega arith in
      let there : x ≡ from_le_bytes w16 (get_or (first_chunks 2 32 bs) i []) = e ∙ (λ j. from_le_bytes w16 (get_or ((t ∙ ap (λ (k : ℕ). first_chunks 2 k bs) half) j) i [])) in
      let one : i + 1 ≡ suc i = omega arith in
      let many = length_numbers 32 bs long in
      record {
        passed = omega arith;
        places = length-set letters i x ∙ so.places;
        front =
            ap (λ (n : ℕ). take n (set letters i x)) one ∙ take-suc-set letters i x (omega (arith, so.places)) ∙
            ap₂ (λ (l : List ℕ) (y : ℕ). l ++ (y ∷ [])) so.front (there ∙ sym (chunk_at 32 i bs h long)) ∙
            sym (ap (λ (n : ℕ). take n (numbers bs)) one ∙ take-suc (numbers bs) i 0 (omega arith));
      }

  pub all_read : (i : ℕ) (letters : List ℕ) → ReadSoFar bs i letters → 32 ≤ i → letters ≡ numbers bs
  all_read i letters so h =
      let many = length_numbers 32 bs long in
      sym (take_all i letters (omega (arith, so.places))) ∙ so.front ∙ take_all i (numbers bs) (omega arith)

pub length_pairs : (ns : List ℕ) → length (pairs ns) ≡ 2 * length ns
length_pairs [] = refl
length_pairs (n ∷ ns) = omega (arith, length_pairs ns)

pairs_snoc : (ns : List ℕ) (n : ℕ) → pairs (ns ++ (n ∷ [])) ≡ pairs ns ++ (n % 256 ∷ n / 256 ∷ [])
pairs_snoc [] n = refl
pairs_snoc (m ∷ ns) n = ap (λ (l : List ℕ). m % 256 ∷ m / 256 ∷ l) (pairs_snoc ns n)

-- so far: the pairs of the first numbers are written
pub record WrittenSoFar (letters : List ℕ) (i : ℕ) (out : List ℕ) : Type 0 where
  pub passed : i ≤ 32
  pub long : length out ≡ 64
  pub front : take (2 * i) out ≡ pairs (take i letters)

module _ (letters : List ℕ) (places : length letters ≡ 32) where
  pub write_on : (i low high : ℕ) (out : List ℕ) → WrittenSoFar letters i out → i < 32 → low ≡ get_or letters i 0 % 256 → high ≡ get_or letters i 0 / 256 →
      WrittenSoFar letters (i + 1) (set (set out (2 * i) low) (2 * i + 1) high)
  write_on i low high out so h p q =
      let first = set out (2 * i) low in
      let long : length first ≡ 64 = length-set out (2 * i) low ∙ so.long in
      let one : i + 1 ≡ suc i = omega arith in
      let two : 2 * (i + 1) ≡ suc (2 * i + 1) = omega arith in
      let next : 2 * i + 1 ≡ suc (2 * i) = omega arith in
      record {
        passed = omega arith;
        long = length-set first (2 * i + 1) high ∙ long;
        front =
            ap (λ (m : ℕ). take m (set first (2 * i + 1) high)) two ∙ take-suc-set first (2 * i + 1) high (omega arith) ∙
            ap (λ (l : List ℕ). l ++ (high ∷ []))
            (ap (λ (m : ℕ). take m first) next ∙ take-suc-set out (2 * i) low (omega (arith, so.long)) ∙ ap (λ (l : List ℕ). l ++ (low ∷ [])) so.front) ∙
            append_assoc (pairs (take i letters)) (low ∷ []) (high ∷ []) ∙ ap₂ (λ (x y : ℕ). pairs (take i letters) ++ (x ∷ y ∷ [])) p q ∙
            sym (pairs_snoc (take i letters) (get_or letters i 0)) ∙
            ap pairs (sym (ap (λ (m : ℕ). take m letters) one ∙ take-suc letters i 0 (omega arith)));
      }

  pub all_written : (i : ℕ) (out : List ℕ) → WrittenSoFar letters i out → 32 ≤ i → out ≡ pairs letters
  all_written i out so h = sym (take_all (2 * i) out (omega (arith, so.long))) ∙ so.front ∙ ap pairs (take_all i letters (omega arith))
