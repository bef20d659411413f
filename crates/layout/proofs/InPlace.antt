-- A record's bytes, changed where they lie: with a key, an array of places, the tone's place, numbers or letters put into them they are those of the record with these.
use mathlib.Core.Path.{◌≡◌, refl, sym, ap, ap₂, ◌∙◌}
use mathlib.Core.Bool.{Bool, true, false, not, ◌&&◌, ◌||◌}
use mathlib.Core.List.{List, [], ◌∷◌, ◌++◌, append_assoc}
use Prim.Native.Nat.{ℕ, ◌+◌, ◌<◌}
use native.Mathlib.Omega.{arith}
use borrow.Author.Tests.{eq-eqb, eqb-true}
use borrow.Rule.Slice.PartMut.{put_mid, set_mid_at}
use lib.Dec.{eqb}
use lib.ListN.{length, take, drop, set, length-append}
use lib.Seq.{take_at, drop_at, drop-drop, set_at, get_or-drop}
use Rattle.rules.specs.declared.Word.{Word}
use Rattle.rules.proofs.StaysInRange.{Whole}
use Rattle.layout.specs.Places.{pairs, bytes_with, as_bytes, byte, part, is_long, letters_put_if, letters_put}
use Rattle.layout.proofs.Pairs.{length_pairs}
use Rattle.layout.proofs.Answers.{with_parts, head_of}

-- the middle of three parts
module _ (front mid rest : List ℕ) (place many : ℕ) (p : length front ≡ place) (m : length mid ≡ many) where
  mid_part : part place many (front ++ (mid ++ rest)) ≡ mid
  mid_part = ap (take many) (drop_at front (mid ++ rest) place p) ∙ take_at mid rest many m

  mid_put : (new : List ℕ) → put_mid place many (front ++ (mid ++ rest)) new ≡ front ++ (new ++ rest)
  mid_put new =
      ap₂ (λ (x y : List ℕ). x ++ (new ++ drop many y)) (take_at front (mid ++ rest) place p) (drop_at front (mid ++ rest) place p) ∙
      ap (λ (l : List ℕ). front ++ (new ++ l)) (drop_at mid rest many m)

  mid_set : (i v : ℕ) → i < many → set (front ++ (mid ++ rest)) (place + i) v ≡ front ++ (set mid i v ++ rest)
  mid_set i v h =
      let all = front ++ (mid ++ rest) in
      sym (set_mid_at place many i all v (omega (arith, ap (λ (l : List ℕ). length l) mid_part, m))) ∙
      ap (λ (l : List ℕ). put_mid place many all (set l i v)) mid_part ∙ mid_put (set mid i v)

-- a record with another array or place, and all else as it was
abbrev pub with_keys : Word → List ℕ → Word
with_keys w keys = with_parts w w.closed keys w.letters w.appended_by w.shaped_by w.toned_by

abbrev pub with_by : Word → List ℕ → Word
with_by w by = with_parts w w.closed w.keys w.letters by w.shaped_by w.toned_by

abbrev pub with_shaped : Word → List ℕ → Word
with_shaped w shaped = with_parts w w.closed w.keys w.letters w.appended_by shaped w.toned_by

abbrev pub with_toned : Word → ℕ → Word
with_toned w toned = with_parts w w.closed w.keys w.letters w.appended_by w.shaped_by toned

module _ (ls : List ℕ) (long : length ls ≡ 64) (w : Word) (whole : Whole w) where
  -- the bytes around each part
  abbrev to_letters : List ℕ
  to_letters = head_of w ++ w.keys

  abbrev to_by : List ℕ
  to_by = to_letters ++ ls

  abbrev to_shaped : List ℕ
  to_shaped = to_by ++ w.appended_by

  length_to_letters : length to_letters ≡ 40
  length_to_letters = length-append (head_of w) w.keys ∙ omega (arith, whole.keys)

  length_to_by : length to_by ≡ 104
  length_to_by = length-append to_letters ls ∙ omega (arith, length_to_letters, long)

  length_to_shaped : length to_shaped ≡ 136
  length_to_shaped = length-append to_by w.appended_by ∙ omega (arith, length_to_by, whole.by)

  length_to_toned : length (to_shaped ++ w.shaped_by) ≡ 168
  length_to_toned = length-append to_shaped w.shaped_by ∙ omega (arith, length_to_shaped, whole.shaped_by)

  pub long_bytes : length (bytes_with ls w) ≡ 169
  long_bytes = length-append (to_shaped ++ w.shaped_by) (w.toned_by ∷ []) ∙ omega (arith, length_to_toned)

  abbrev past_by : List ℕ
  past_by = w.shaped_by ++ (w.toned_by ∷ [])

  pub by_part : part 104 32 (bytes_with ls w) ≡ w.appended_by
  by_part = let e : bytes_with ls w ≡ to_by ++ (w.appended_by ++ past_by) = simp append_assoc in ap (part 104 32) e ∙ mid_part to_by w.appended_by past_by 104 32 length_to_by whole.by

  pub shaped_part : part 136 32 (bytes_with ls w) ≡ w.shaped_by
  shaped_part = let e : bytes_with ls w ≡ to_shaped ++ (w.shaped_by ++ (w.toned_by ∷ [])) = simp append_assoc in ap (part 136 32) e ∙ mid_part to_shaped w.shaped_by (w.toned_by ∷ []) 136 32 length_to_shaped whole.shaped_by

  pub toned_byte : byte 168 (bytes_with ls w) ≡ w.toned_by
  toned_byte = sym (get_or-drop 168 (bytes_with ls w) 0 0) ∙ ap (byte 0) (drop_at (to_shaped ++ w.shaped_by) (w.toned_by ∷ []) 168 length_to_toned)

  pub key_put : (i k : ℕ) → i < 32 → set (bytes_with ls w) (8 + i) k ≡ bytes_with ls (with_keys w (set w.keys i k))
  key_put i k h =
      let past_keys = ls ++ (w.appended_by ++ past_by) in
      let e : bytes_with ls w ≡ head_of w ++ (w.keys ++ past_keys) = simp append_assoc in
      let f : head_of w ++ (set w.keys i k ++ past_keys) ≡ bytes_with ls (with_keys w (set w.keys i k)) = simp append_assoc in
      ap (λ (l : List ℕ). set l (8 + i) k) e ∙ mid_set (head_of w) w.keys past_keys 8 32 refl whole.keys i k h ∙ f

  pub by_put : (new : List ℕ) → put_mid 104 32 (bytes_with ls w) new ≡ bytes_with ls (with_by w new)
  by_put new =
      let e : bytes_with ls w ≡ to_by ++ (w.appended_by ++ past_by) = simp append_assoc in
      let f : to_by ++ (new ++ past_by) ≡ bytes_with ls (with_by w new) = simp append_assoc in
      ap (λ (l : List ℕ). put_mid 104 32 l new) e ∙ mid_put to_by w.appended_by past_by 104 32 length_to_by whole.by new ∙ f

  pub shaped_put : (new : List ℕ) → put_mid 136 32 (bytes_with ls w) new ≡ bytes_with ls (with_shaped w new)
  shaped_put new =
      let last = w.toned_by ∷ [] in
      let e : bytes_with ls w ≡ to_shaped ++ (w.shaped_by ++ last) = simp append_assoc in
      let f : to_shaped ++ (new ++ last) ≡ bytes_with ls (with_shaped w new) = simp append_assoc in
      ap (λ (l : List ℕ). put_mid 136 32 l new) e ∙ mid_put to_shaped w.shaped_by last 136 32 length_to_shaped whole.shaped_by new ∙ f

  pub toned_put : (new : ℕ) → set (bytes_with ls w) 168 new ≡ bytes_with ls (with_toned w new)
  toned_put new = set_at (to_shaped ++ w.shaped_by) w.toned_by [] new 168 length_to_toned

  letters_put_law : (new : List ℕ) → put_mid 40 64 (bytes_with ls w) new ≡ bytes_with new w
  letters_put_law new =
      let past_letters = w.appended_by ++ past_by in
      let e : bytes_with ls w ≡ to_letters ++ (ls ++ past_letters) = simp append_assoc in
      let f : to_letters ++ (new ++ past_letters) ≡ bytes_with new w = simp append_assoc in
      ap (λ (l : List ℕ). put_mid 40 64 l new) e ∙ mid_put to_letters ls past_letters 40 64 length_to_letters long new ∙ f

-- letters put into their place, by the test
module _ (letters old : List ℕ) where
  abbrev unlike : Bool
  unlike = not (eqb (length letters) 32) || not (is_long old)

  both : (p q : Bool) → not p || not q ≡ false → (p ≡ true) × (q ≡ true)
  both true true e = (refl, refl)
  both true false e = let z : ◌≡◌ {A = ℕ} 0 1 = cc in absurd (omega arith)
  both false q e = let z : ◌≡◌ {A = ℕ} 0 1 = cc in absurd (omega arith)

  neither : (p q : Bool) → not p || not q ≡ true → p && q ≡ false
  neither true true e = let z : ◌≡◌ {A = ℕ} 0 1 = cc in absurd (omega arith)
  neither true false e = refl
  neither false q e = refl

  pub nothing_put : unlike ≡ true → old ≡ letters_put letters old
  unfolding letters_put
  nothing_put e = sym (ap (λ (b : Bool). letters_put_if b letters old) (neither (eqb (length letters) 32) (is_long old) e))

  module _ (e : unlike ≡ false) where
    pub alike : (length letters ≡ 32) × (length old ≡ 169)
    alike = let t = both (eqb (length letters) 32) (is_long old) e in (eqb-true (length letters) 32 t.0, eqb-true (length old) 169 t.1)

    pub all_put : {new : List ℕ} → new ≡ pairs letters → put_mid 40 64 old new ≡ letters_put letters old
    unfolding letters_put
    all_put p =
        ap₂ (λ (x y : List ℕ). take 40 old ++ (x ++ y)) p (drop-drop 64 40 old) ∙
        sym (ap₂ (λ (a b : Bool). letters_put_if (a && b) letters old) (eq-eqb (length letters) 32 alike.0) (eq-eqb (length old) 169 alike.1))

-- so the record's own letters are put where others stood
pub letters_there : (ls : List ℕ) → length ls ≡ 64 → (w : Word) → Whole w → letters_put w.letters (bytes_with ls w) ≡ bytes_with (pairs w.letters) w
unfolding letters_put
letters_there ls long w whole =
    ap₂ (λ (a b : Bool). letters_put_if (a && b) w.letters (bytes_with ls w)) (eq-eqb (length w.letters) 32 whole.letters) (eq-eqb (length (bytes_with ls w)) 169 (long_bytes ls long w whole)) ∙
    sym (ap (λ (y : List ℕ). take 40 (bytes_with ls w) ++ (pairs w.letters ++ y)) (drop-drop 64 40 (bytes_with ls w))) ∙ letters_put_law ls long w whole (pairs w.letters)

-- all the bytes of a record
pub long_word : (w : Word) → Whole w → length (as_bytes w) ≡ 169
long_word w whole = long_bytes (pairs w.letters) (length_pairs w.letters ∙ omega (arith, whole.letters)) w whole
