-- When the speller refuses nothing: the mode exists, the text is short enough and read with no fault, and the output has room.
use Rattle.std.specs.Prelude.{Option, Some, None, Ok}
use mathlib.Core.Path.{◌≡◌, refl, ap}
use mathlib.Core.Bool.{not}
use mathlib.Core.List.{List, [], ◌∷◌}
use Prim.Native.Nat.{ℕ, ◌*◌, ◌≤◌}
use native.Mathlib.Omega.{arith}
use lib.Dec.{T, eqb, eqb→eq, nltb→le, lit≤}
use lib.ListN.{length, length-append, length-map}
use lib.Ieee.Fits.{eq→eqb}
use Rattle.rules.specs.Letters.{Letters, telex}
use Rattle.rules.specs.TheWord.{most_bytes}
use Rattle.rules.specs.CodePoints.{Sign, point, utf8, bytes, signs, shown}
use Rattle.rules.specs.Speller.{read, letters_in, key_of_letter}
use Rattle.rules.specs.Refusals.{is_mode, is_stuck, fault_of, table, refusal, NoneHolds, no_rows, not_this}
use Rattle.rules.specs.WhatComesBack.{keys_of, spell_call, write_or, spell}
use Rattle.rules.specs.declared.Refusal.{Refusal}
use Rattle.rules.proofs.Range.{not_not, twice, not_over}
use Rattle.rules.proofs.Refused.{refusal_none}
use Rattle.rules.specs.Syllables.{Syllable, open_word}
use Rattle.forms.specs.Spelling.{written_keys}
use Rattle.forms.proofs.Typings.{few}
use Rattle.forms.proofs.Keys.{letters_count}
use Rattle.forms.proofs.ReadBack.{OneToThree, one, two, three, one_to_three}
use Rattle.forms.proofs.Signs.{letters_back}

-- the shown text of a syllable has at most 24 bytes
three_bytes : {u : List ℕ} → OneToThree u → length u ≤ 3
three_bytes one = lit≤ tt
three_bytes two = lit≤ tt
three_bytes three = lit≤ tt

bytes_length : (ss : List Sign) → length (bytes ss) ≤ 3 * length (letters_in ss)
bytes_length [] = lit≤ tt
bytes_length (s ∷ ss) = simp (length-append (utf8 (point s)) (bytes ss)) (omega (arith, three_bytes (one_to_three (point s)), bytes_length ss))

pub short_text : (w : Letters) (t : ℕ) → Syllable w t → length (shown (open_word w t)) ≤ most_bytes
short_text w t s =
    omega (arith, bytes_length (signs w t), ap (λ (v : Letters). length v) (letters_back w t), few telex tt w t s, letters_count telex w, length-map w key_of_letter)

-- what is asked of a call that is not refused
pub record Accepts (m : ℕ) (text out : List ℕ) : Type 0 where
  pub mode : T (is_mode m)
  pub short : length text ≤ most_bytes
  pub not_stuck : T (not (is_stuck (read text)))
  pub faultless : fault_of (read text) ≡ 0
  pub room : length (keys_of m (read text)) ≤ length out

accepts_rows : (m : ℕ) (text out : List ℕ) → NoneHolds (table (spell_call m text out)) → Accepts m text out
accepts_rows m text out (not_this range (not_this mode (not_this keys (not_this short (not_this byte (not_this stuck (not_this bad (not_this other (not_this room no_rows))))))))) =
    record {
      mode = not_not (is_mode m) mode;
      short = nltb→le most_bytes (length text) short;
      not_stuck = stuck;
      faultless = eqb→eq (fault_of (read text)) 0 (not_not (eqb (fault_of (read text)) 0) bad);
      room = nltb→le (length out) (length (keys_of m (read text))) room;
    }

wrote : (o : Option Refusal) (keys out : List ℕ) {n : ℕ} → (write_or o keys out).answer ≡ Ok n → o ≡ None
wrote None keys out e = refl
wrote (Some r) keys out e = let z : ◌≡◌ {A = ℕ} 0 1 = cc in absurd (omega arith)

pub written_accepts : (m : ℕ) (text out : List ℕ) {n : ℕ} → (spell m text out).answer ≡ Ok n → Accepts m text out
unfolding spell
written_accepts m text out e = accepts_rows m text out ((refusal_none (spell_call m text out)).0 (wrote (refusal (spell_call m text out)) (keys_of m (read text)) out e))

pub accepts_written : (m : ℕ) (text out : List ℕ) → Accepts m text out → spell m text out ≡ written_keys (keys_of m (read text)) out
unfolding spell
accepts_written m text out a =
    ap (λ (o : Option Refusal). write_or o (keys_of m (read text)) out)
    ((refusal_none (spell_call m text out)).1
    (not_this tt (not_this (twice (is_mode m) a.mode) (not_this tt (not_this (not_over most_bytes (length text) a.short) (not_this tt
    (not_this a.not_stuck (not_this (twice (eqb (fault_of (read text)) 0) (eq→eqb a.faultless)) (not_this tt (not_this (not_over (length out) (length (keys_of m (read text))) a.room) no_rows))))))))))
