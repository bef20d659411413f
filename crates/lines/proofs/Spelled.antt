-- What the speller answers with room for a line: never refusal 4, a refusal whose numbers fit their columns, or at most 193 keys, two a byte of the text and one.
use Rattle.std.specs.Prelude.{Option, Some, None, Result, Ok, Err}
use mathlib.Core.Path.{◌≡◌, refl, sym, ap, ◌∙◌}
use mathlib.Core.Bool.{Bool, true, false, not, ◌&&◌, ◌||◌}
use mathlib.Core.List.{List, [], ◌∷◌, ◌++◌}
use Prim.Native.Nat.{ℕ, zero, suc, ◌+◌, ◌*◌, ◌≤◌, ◌<◌}
use native.Mathlib.Omega.{arith}
use borrow.Author.Tests.{lt-ltb, le-ltb, ltb-true, ltb-false, leb-true}
use lib.Dec.{T, eqb, leb, ltb, nltb→le, lit≤}
use lib.ListN.{length, take, drop, length-append, length-drop}
use lib.Ieee.Fits.{and_l, and_r}
use Rattle.rules.specs.Letters.{plain, no_tone}
use Rattle.rules.specs.TheWord.{most_bytes, at_front}
use Rattle.rules.specs.TakingApart.{initial, nucleus, final, listed, Check, first_that_holds, one_to_five, six_and_seven, verdict}
use Rattle.rules.specs.CodePoints.{Sign, point, utf8, signs}
use Rattle.rules.specs.Speller.{Front, no_letter, a_letter, Reading, stuck_at, reading, and_then, more_bytes, go_on, read_from, read, letter_at, letters_in, tones_in, tone_in, two_tones, same_tones, fault, keys_after, letter_keys, tone_keys, standard_keys, awaits_o, shape_key, tone_key}
use Rattle.rules.specs.Refusals.{is_mode, is_stuck, stuck_place, fault_of, refusal, table, NoneHolds, not_this}
use Rattle.rules.specs.WhatComesBack.{Written, write_or, keys_of, spell_call, spell}
use Rattle.rules.specs.Drill.{newline, refused_line}
use Rattle.rules.specs.SpellProgram.{text_call, spelled_or, spelled_line}
use Rattle.rules.specs.declared.Refusal.{Refusal}
use Rattle.rules.proofs.Tests.{is_true}
use Rattle.rules.proofs.StaysInRange.{read_front}
use Rattle.rules.proofs.Refused.{refusal_none}
use Rattle.lines.specs.Appending.{most_in_line}

-- a text has no more letters than bytes, and a byte where no letter starts stands within it
abbrev many : Reading → ℕ
many (stuck_at n) = 0
many (reading ss) = length ss

one_more : (s : Sign) (r : Reading) (n : ℕ) → many r ≤ n → many (and_then s r) ≤ suc n
one_more s (stuck_at k) n h = omega arith
one_more s (reading ss) n h = omega arith

few_from : (more at : ℕ) (bs : List ℕ) → many (read_from more at bs) ≤ length bs
few_from more at [] = lit≤ tt
few_from (suc more) at (b ∷ bs) = omega (arith, few_from more (suc at) bs)
few_from zero at (b ∷ bs) = go (letter_at (b ∷ bs)) (λ k. few_from k (suc at) bs)
  where
    go : (f : Front) → ((k : ℕ) → many (read_from k (suc at) bs) ≤ length bs) → many (go_on at (λ more. read_from more (suc at) bs) f) ≤ suc (length bs)
    go no_letter h = omega arith
    go (a_letter s) h = one_more s (read_from (more_bytes (utf8 (point s))) (suc at) bs) (length bs) (h (more_bytes (utf8 (point s))))

same_place : (s : Sign) (r : Reading) → stuck_place (and_then s r) ≡ stuck_place r
same_place s (stuck_at k) = refl
same_place s (reading ss) = refl

place_from : (more at : ℕ) (bs : List ℕ) → stuck_place (read_from more at bs) ≤ at + length bs
place_from more at [] = omega arith
place_from (suc more) at (b ∷ bs) = omega (arith, place_from more (suc at) bs)
place_from zero at (b ∷ bs) = go (letter_at (b ∷ bs)) (λ k. place_from k (suc at) bs)
  where
    go : (f : Front) → ((k : ℕ) → stuck_place (read_from k (suc at) bs) ≤ suc at + length bs) → stuck_place (go_on at (λ more. read_from more (suc at) bs) f) ≤ at + suc (length bs)
    go no_letter h = omega arith
    go (a_letter s) h = omega (arith, same_place s (read_from (more_bytes (utf8 (point s))) (suc at) bs), h (more_bytes (utf8 (point s))))

-- two keys for a letter at most, and one for the tone
few_unless : (k : ℕ) (b : Bool) → length {A = ℕ} (elim b as (λ x. List ℕ) [ true ↦ [] | false ↦ k ∷ [] ]) ≤ 1
few_unless k true = lit≤ tt
few_unless k false = lit≤ tt

few_keys : (m : ℕ) (ss : List Sign) → length (letter_keys m (letters_in ss)) ≤ 2 * length ss
few_keys m [] = lit≤ tt
few_keys m (s ∷ ss) =
    let w = letters_in ss in
    simp (length-append (keys_after m s.letter w) (letter_keys m w))
    (omega (arith, few_keys m ss, few_unless (shape_key m s.letter) (eqb s.letter.shape plain || awaits_o s.letter w)))

pub keys_few : (m : ℕ) (text : List ℕ) → length (keys_of m (read text)) ≤ 2 * length text + 1
unfolding read standard_keys
keys_few m text = go (read_from 0 0 text) (few_from 0 0 text)
  where
    go : (r : Reading) → many r ≤ length text → length (keys_of m r) ≤ 2 * length text + 1
    go (stuck_at n) k = omega arith
    go (reading ss) k =
        simp (length-append (letter_keys m (letters_in ss)) (tone_keys m (tone_in ss)))
        (omega (arith, few_keys m ss, few_unless (tone_key m (tone_in ss)) (eqb (tone_in ss) no_tone)))

-- the fault's number is at most 9
abbrev all_small : List Check → Bool
all_small [] = true
all_small (c ∷ cs) = leb c.number 9 && all_small cs

first_small : (cs : List Check) → T (all_small cs) → first_that_holds cs ≤ 9
first_small [] t = lit≤ tt
first_small (c ∷ cs) t = go c.holds (first_small cs (and_r (leb c.number 9) (all_small cs) t))
  where
    go : (b : Bool) → first_that_holds cs ≤ 9 → elim b [ true ↦ c.number | false ↦ first_that_holds cs ] ≤ 9
    go true h = leb-true c.number 9 (is_true (leb c.number 9) (and_l (leb c.number 9) (all_small cs) t))
    go false h = h

fault_small : (ss : List Sign) → fault ss ≤ 9
unfolding verdict
fault_small ss =
    let w = letters_in ss in
    let t = tone_in ss in
    go (two_tones (tones_in ss)) (verdict w t) (first_small (one_to_five w ++ six_and_seven (listed (initial w) (nucleus w) (final w)) w t) tt) (eqb (verdict w t) 0) (same_tones ss (signs w t))
  where
    go : (b : Bool) (v : ℕ) → v ≤ 9 → (c d : Bool) → elim b [ true ↦ 8 | false ↦ elim c [ false ↦ v | true ↦ elim d [ true ↦ 0 | false ↦ 9 ] ] ] ≤ 9
    go true v h c d = lit≤ tt
    go false v h false d = h
    go false v h true true = lit≤ tt
    go false v h true false = lit≤ tt

-- the refusal of a text, with no room asked
module _ (m : ℕ) (text : List ℕ) where
  pub text_small : (x : Refusal) → refusal (text_call m text) ≡ Some x → x.value < 256
  unfolding refusal read
  text_small x e = go (not (is_mode m)) (ltb most_bytes (length text)) refl (read_from 0 0 text) (place_from 0 0 text) e
    where
      value : Option Refusal → ℕ
      value None = 0
      value (Some y) = y.value

      go : (p q : Bool) → ltb most_bytes (length text) ≡ q → (r : Reading) → stuck_place r ≤ 0 + length text
          → elim p [ true ↦ Some (record { number = 1; value = 0 }) | false ↦ elim q [ true ↦ Some (record { number = 2; value = most_bytes }) | false ↦ elim (is_stuck r) [ true ↦ Some (record { number = 6; value = stuck_place r }) | false ↦ elim (not (eqb (fault_of r) 0)) [ true ↦ Some (record { number = 7; value = fault_of r }) | false ↦ None ] ] ] ] ≡ Some x
          → x.value < 256
      go true q h r k f = let v : 0 ≡ x.value = ap value f in omega arith
      go false true h r k f = let v : most_bytes ≡ x.value = ap value f in omega arith
      go false false h (stuck_at n) k f = let v : n ≡ x.value = ap value f in omega (arith, ltb-false most_bytes (length text) h)
      go false false h (reading ss) k f = last (not (eqb (fault ss) 0)) f
        where
          last : (c : Bool) → elim c [ true ↦ Some (record { number = 7; value = fault ss }) | false ↦ None ] ≡ Some x → x.value < 256
          last true d = let v : fault ss ≡ x.value = ap value d in omega (arith, fault_small ss)
          last false d = let z : ◌≡◌ {A = ℕ} 0 1 = cc in absurd (omega arith)

  few_where_none : NoneHolds (table (text_call m text)) → length (keys_of m (read text)) ≤ 193
  few_where_none (not_this range (not_this mode (not_this keys (not_this long more)))) = omega (arith, keys_few m text, nltb→le most_bytes (length text) long)

  pub few_spelled : refusal (text_call m text) ≡ None → length (keys_of m (read text)) ≤ 193
  few_spelled e = few_where_none ((refusal_none (text_call m text)).0 e)

  -- the same as the speller's, where there is room for a line
  module _ (out : List ℕ) (room : most_in_line ≤ length out) where
    too_much : most_bytes < length text → refusal (spell_call m text out) ≡ refusal (text_call m text)
    unfolding refusal
    too_much h = simp (lt-ltb most_bytes (length text) h)

    room_enough : length text ≤ most_bytes → refusal (spell_call m text out) ≡ refusal (text_call m text)
    unfolding refusal
    room_enough h = simp (le-ltb (length out) (length (keys_of m (read text))) (omega (arith, keys_few m text)))

    same_refusal : refusal (spell_call m text out) ≡ refusal (text_call m text)
    same_refusal = go (ltb most_bytes (length text)) refl
      where
        go : (b : Bool) → ltb most_bytes (length text) ≡ b → refusal (spell_call m text out) ≡ refusal (text_call m text)
        go true e = too_much (ltb-true most_bytes (length text) e)
        go false e = room_enough (ltb-false most_bytes (length text) e)

    abbrev written : Option Refusal → Written
    written o = write_or o (keys_of m (read text)) out

    spells : spell m text out ≡ written (refusal (text_call m text))
    unfolding spell
    spells = ap written same_refusal

    -- by what was answered
    pub record Refuses (x : Refusal) (after : List ℕ) : Type 0 where
      pub why : refusal (text_call m text) ≡ Some x
      pub line : refused_line x ≡ spelled_line m text
      pub unchanged : after ≡ out

    pub record Spells (n : ℕ) (after : List ℕ) : Type 0 where
      pub few : n ≤ 193
      pub inside : n < length after
      pub line : take n after ++ (newline ∷ []) ≡ spelled_line m text

    module _ (r : Result ℕ Refusal) (after : List ℕ) (a : r ≡ (spell m text out).answer) (o : after ≡ (spell m text out).output) where
      pub refuses : (x : Refusal) → r ≡ Err x → Refuses x after
      refuses x d = go (refusal (text_call m text)) refl
        where
          go : (p : Option Refusal) → refusal (text_call m text) ≡ p → Refuses x after
          go None e =
              let f : Ok (length (keys_of m (read text))) ≡ Err x = sym (ap (λ (w : Written). w.answer) (spells ∙ ap written e)) ∙ sym a ∙ d in
              let z : ◌≡◌ {A = ℕ} 0 1 = cc in
              absurd (omega arith)
          go (Some y) e =
              let f : Err y ≡ Err x = sym (ap (λ (w : Written). w.answer) (spells ∙ ap written e)) ∙ sym a ∙ d in
              let g : y ≡ x = cc in
              let h = e ∙ ap (λ (u : Refusal). Some u) g in
              record { why = h; line = sym (ap (λ (p : Option Refusal). spelled_or p m text) h); unchanged = o ∙ ap (λ (w : Written). w.output) (spells ∙ ap written e) }

      pub spelled : (n : ℕ) → r ≡ Ok n → Spells n after
      spelled n d = go (refusal (text_call m text)) refl
        where
          go : (p : Option Refusal) → refusal (text_call m text) ≡ p → Spells n after
          go (Some y) e =
              let f : Err y ≡ Ok n = sym (ap (λ (w : Written). w.answer) (spells ∙ ap written e)) ∙ sym a ∙ d in
              let z : ◌≡◌ {A = ℕ} 0 1 = cc in
              absurd (omega arith)
          go None e =
              let keys = keys_of m (read text) in
              let f : Ok (length keys) ≡ Ok n = sym (ap (λ (w : Written). w.answer) (spells ∙ ap written e)) ∙ sym a ∙ d in
              let g : n ≡ length keys = cc in
              let h : after ≡ at_front keys out = o ∙ ap (λ (w : Written). w.output) (spells ∙ ap written e) in
              let k : length keys < length out = omega (arith, few_spelled e) in
              record {
                few = omega (arith, g, few_spelled e);
                inside = omega (arith, g, k, ap length h, length-append keys (drop (length keys) out), length-drop (length keys) out);
                line =
                    ap (λ (l : List ℕ). l ++ (newline ∷ [])) (ap (take n) h ∙ read_front keys out n (sym g)) ∙
                    sym (ap (λ (p : Option Refusal). spelled_or p m text) e);
              }
