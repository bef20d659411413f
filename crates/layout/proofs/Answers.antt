-- The answers of read and write by their tests; the record that read finds is that of the bytes, and the bytes that write leaves are the record's.
use Rattle.std.specs.Prelude.{Option, Some, None}
use mathlib.Core.Path.{◌≡◌, refl, sym, ap, ap₂, ◌∙◌}
use mathlib.Core.Bool.{Bool, true, false, ◌&&◌, ◌||◌}
use mathlib.Core.List.{List, [], ◌∷◌, ◌++◌, append_assoc}
use Prim.Native.Nat.{ℕ, zero, suc, ◌+◌, ◌≤◌, ◌<◌}
use native.Mathlib.Omega.{arith}
use borrow.Author.Tests.{eq-eqb, ne_eqb}
use borrow.Rule.Slice.PartMut.{put_mid}
use mir.Val.{bool_byte}
use lib.ListN.{length, drop, set, length-append, length-take, length-drop, length-set, drop_of_length-le}
use lib.Seq.{take_at, drop_at, drop-cons, drop-drop, set_at}
use Rattle.rules.specs.declared.Word.{Word}
use Rattle.rules.proofs.StaysInRange.{Whole}
use Rattle.layout.proofs.Pairs.{length_pairs}
use Rattle.layout.specs.Places.{pairs, numbers, mark_byte, as_bytes, byte, part, is_long, is_mark, word_from, record_if, as_record, record_written_if, record_written, held, or_new}

-- a record with another mark, other arrays and another place of the tone's key
abbrev pub with_parts : Word → Bool → List ℕ → List ℕ → List ℕ → List ℕ → ℕ → Word
with_parts w closed keys letters by shaped toned =
    record {
      mode = w.mode;
      letters = letters;
      appended_by = by;
      shaped_by = shaped;
      count = w.count;
      tone = w.tone;
      toned_by = toned;
      closed = closed;
      keys = keys;
      typed = w.typed;
      acted = w.acted;
      undone = w.undone;
      appended = w.appended;
    }

pub length_part : (place many : ℕ) (bs : List ℕ) → place + many ≤ length bs → length (part place many bs) ≡ many
length_part place many bs h = simp (length-take, length-drop) (omega arith)

pub last_byte : (place : ℕ) (bs : List ℕ) → length bs ≡ place + 1 → drop place bs ≡ byte place bs ∷ []
last_byte place bs e = drop-cons bs place 0 (omega arith) ∙ ap (λ (l : List ℕ). byte place bs ∷ l) (drop_of_length-le bs {i = suc place} (omega arith))

is_mark_law : (m : ℕ) → m ≤ 1 → is_mark m ≡ true
is_mark_law zero h = refl
is_mark_law (suc zero) h = refl
is_mark_law (suc (suc m)) h = absurd (omega arith)

pub no_mark : (m : ℕ) → 1 < m → is_mark m ≡ false
no_mark m h = ap₂ ◌||◌ (ne_eqb m 0 (λ e. omega arith)) (ne_eqb m 1 (λ e. omega arith))

module _ (bs : List ℕ) where
  pub another_length : (length bs ≡ 169 → ⊥) → None ≡ as_record bs
  unfolding as_record
  another_length h = sym (ap (λ (b : Bool). record_if (b && is_mark (byte 3 bs)) bs) (ne_eqb (length bs) 169 h))

  module _ (long : length bs ≡ 169) where
    marked : (b : Bool) → is_mark (byte 3 bs) ≡ b → as_record bs ≡ record_if b bs
    unfolding as_record
    marked b e = ap₂ (λ (l m : Bool). record_if (l && m) bs) (eq-eqb (length bs) 169 long) e

    pub another_mark : 1 < byte 3 bs → None ≡ as_record bs
    another_mark h = sym (marked false (no_mark (byte 3 bs) h))

    pub letters_read : byte 3 bs ≤ 1 → numbers (part 40 64 bs) ≡ (held bs).letters
    letters_read h = sym (ap (λ (r : Option Word). (or_new r).letters) (marked true (is_mark_law (byte 3 bs) h)))

    pub all_read : {keys letters by shaped : List ℕ} → byte 3 bs ≤ 1 → keys ≡ part 8 32 bs → letters ≡ numbers (part 40 64 bs) →
        by ≡ part 104 32 bs → shaped ≡ part 136 32 bs →
        Some (with_parts (word_from bs) (word_from bs).closed keys letters by shaped (word_from bs).toned_by) ≡ as_record bs
    all_read h p q r s =
        (λ j. Some (with_parts (word_from bs) (word_from bs).closed (p j) (q j) (r j) (s j) (word_from bs).toned_by)) ∙
        sym (marked true (is_mark_law (byte 3 bs) h))

-- the eight numbers, written one by one
pub eight : (a b c d e f g h : ℕ) (l : List ℕ) → 8 ≤ length l →
    set (set (set (set (set (set (set (set l 0 a) 1 b) 2 c) 3 d) 4 e) 5 f) 6 g) 7 h ≡ a ∷ b ∷ c ∷ d ∷ e ∷ f ∷ g ∷ h ∷ drop 8 l
eight a b c d e f g h [] k = absurd (omega arith)
eight a b c d e f g h (_ ∷ []) k = absurd (omega arith)
eight a b c d e f g h (_ ∷ _ ∷ []) k = absurd (omega arith)
eight a b c d e f g h (_ ∷ _ ∷ _ ∷ []) k = absurd (omega arith)
eight a b c d e f g h (_ ∷ _ ∷ _ ∷ _ ∷ []) k = absurd (omega arith)
eight a b c d e f g h (_ ∷ _ ∷ _ ∷ _ ∷ _ ∷ []) k = absurd (omega arith)
eight a b c d e f g h (_ ∷ _ ∷ _ ∷ _ ∷ _ ∷ _ ∷ []) k = absurd (omega arith)
eight a b c d e f g h (_ ∷ _ ∷ _ ∷ _ ∷ _ ∷ _ ∷ _ ∷ []) k = absurd (omega arith)
eight a b c d e f g h (_ ∷ _ ∷ _ ∷ _ ∷ _ ∷ _ ∷ _ ∷ _ ∷ l) k = refl

pub mark_byte_law : (b : Bool) → bool_byte b ≡ mark_byte b
mark_byte_law true = refl
mark_byte_law false = refl

abbrev pub head_of : Word → List ℕ
head_of w = w.mode ∷ w.count ∷ w.tone ∷ mark_byte w.closed ∷ w.typed ∷ w.acted ∷ w.undone ∷ w.appended ∷ []

abbrev pub headed : Word → List ℕ → List ℕ
headed w l =
    set (set (set (set (set (set (set (set l 0 w.mode) 1 w.count) 2 w.tone) 3 (bool_byte w.closed)) 4 w.typed) 5 w.acted) 6 w.undone) 7 w.appended

pub length_headed : (w : Word) (l : List ℕ) → length (headed w l) ≡ length l
length_headed w l = simp length-set

-- a buffer with each part put into its place
abbrev pub put_keys : List ℕ → List ℕ → List ℕ
put_keys = put_mid 8 32

abbrev pub put_letters : List ℕ → List ℕ → List ℕ
put_letters = put_mid 40 64

abbrev pub put_by : List ℕ → List ℕ → List ℕ
put_by = put_mid 104 32

abbrev pub put_shaped : List ℕ → List ℕ → List ℕ
put_shaped = put_mid 136 32

-- so far: the front stands in the first places, and the others are as they were
record Filled (old front : List ℕ) (place : ℕ) (bs : List ℕ) : Type 0 where
  long : length front ≡ place
  so : bs ≡ front ++ drop place old

-- a part more, behind the front
filled : {old front bs put new : List ℕ} {place : ℕ} (many : ℕ) → put ≡ new → length new ≡ many → Filled old front place bs →
    Filled old (front ++ new) (place + many) (put_mid place many bs put)
filled {old} {front} {bs} {put} {new} {place} many p e f =
    let rest = drop place old in
    record {
      long = length-append front new ∙ omega (arith, f.long);
      so =
          ap₂ (put_mid place many) f.so p ∙
          ap₂ (λ (x y : List ℕ). x ++ (new ++ drop many y)) (take_at front rest place f.long) (drop_at front rest place f.long) ∙
          sym (append_assoc front new (drop many rest)) ∙ ap (λ (l : List ℕ). (front ++ new) ++ l) (drop-drop many place old);
    }

-- and the last byte
filled_up : {old front bs : List ℕ} {place : ℕ} (n : ℕ) → length old ≡ place + 1 → Filled old front place bs → set bs place n ≡ front ++ n ∷ []
filled_up {old} {front} {bs} {place} n e f =
    ap (λ (l : List ℕ). set l place n) (f.so ∙ ap (λ (l : List ℕ). front ++ l) (last_byte place old e)) ∙ set_at front (byte place old) [] n place f.long

module _ (w : Word) (old : List ℕ) where
  pub written : length old ≡ 169 → record_written w old ≡ as_bytes w
  unfolding record_written
  written long = ap (λ (b : Bool). record_written_if b w old) (eq-eqb (length old) 169 long)

  pub nothing_written : (length old ≡ 169 → ⊥) → (false ≡ is_long old) × (old ≡ record_written w old)
  unfolding record_written
  nothing_written h = let e = ne_eqb (length old) 169 h in (sym e, sym (ap (λ (b : Bool). record_written_if b w old) e))

  module _ (long : length old ≡ 169) (whole : Whole w) where
    head_filled : Filled old (head_of w) 8 (headed w old)
    head_filled =
        record {
          long = refl;
          so =
              eight w.mode w.count w.tone (bool_byte w.closed) w.typed w.acted w.undone w.appended old (omega arith) ∙
              ap (λ (m : ℕ). w.mode ∷ w.count ∷ w.tone ∷ m ∷ w.typed ∷ w.acted ∷ w.undone ∷ w.appended ∷ drop 8 old) (mark_byte_law w.closed);
        }

    pub all_written : {keys letters by shaped : List ℕ} → keys ≡ w.keys → letters ≡ pairs w.letters → by ≡ w.appended_by → shaped ≡ w.shaped_by →
        (true ≡ is_long old) × (set (put_shaped (put_by (put_letters (put_keys (headed w old) keys) letters) by) shaped) 168 w.toned_by ≡ record_written w old)
    all_written p q r s =
        let lettered = filled 64 q (length_pairs w.letters ∙ omega (arith, whole.letters)) (filled 32 p whole.keys head_filled) in
        let placed = filled 32 s whole.shaped_by (filled 32 r whole.by lettered) in
        (sym (eq-eqb (length old) 169 long), filled_up w.toned_by long placed ∙ sym (written long))
