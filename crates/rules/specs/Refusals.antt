-- 1 Refusals (docs/RULES.md): what a refusal can be about, the condition and the number returned of each, and the table in its order.
use Rattle.std.specs.Prelude.{Bool, true, false, not, ◌&&◌, ◌||◌, List, [], ◌∷◌, ◌++◌, ℕ, suc, ◌+◌, T, eqb, ltb, length, take, Option, Some, None}
use Rattle.rules.specs.Letters.{Letter, dot, telex, vni, carries}
use Rattle.rules.specs.TheWord.{most_keys, most_bytes, no_key, letter, number}
use Rattle.rules.specs.KeyRoles.{is_key, is_small, is_digit}
use Rattle.rules.specs.Speller.{Reading, stuck_at, reading, read, fault}
use Rattle.rules.specs.declared.Word.{Word}
use Rattle.rules.specs.declared.Refusal.{Refusal}

-- 1.4 Keys to be typed have a mode, and a number of keys that are typed already. A step types one key after those of
-- its word; a list is typed after none.
pub record Keys : Type 0 where
  pub mode : ℕ
  pub already : ℕ
  pub bytes : List ℕ

-- 1.5 A lent text is for commit, with the text that the keys show beside it, or for the speller.
pub data Text : Type 0 where
  to_commit : List ℕ → List ℕ → Text
  to_spell : List ℕ → Text

-- 1.6 A lent output has a length, and what is to be written needs a number of bytes.
pub record Room : Type 0 where
  pub needed : ℕ
  pub there : ℕ

-- 1.3 A row asks about one thing that an entry may be handed: a record, a mode, keys, a text or an output. An entry
-- that is handed no such thing cannot meet the row.
pub record Call : Type 0 where
  pub record? : Option Word
  pub mode? : Option ℕ
  pub keys? : Option Keys
  pub text? : Option Text
  pub room? : Option Room

-- 1.7 A list of numbers passes a test when all of them pass; of a list of conditions any one is enough.
abbrev pub all : (ℕ → Bool) → List ℕ → Bool
all f [] = true
all f (x ∷ xs) = f x && all f xs

abbrev pub any : List Bool → Bool
any [] = false
any (b ∷ []) = b
any (b ∷ c ∷ cs) = b || any (c ∷ cs)

-- 1.8 Refusal 1: a mode that is handed in is neither 0 nor 1. It returns 0.
abbrev pub is_mode : ℕ → Bool
is_mode m = eqb m telex || eqb m vni

abbrev pub wrong_mode : ℕ → Bool
wrong_mode m = not (is_mode m)

-- 1.9 Refusal 2 for keys: together with those already typed they are more than 32. It returns 32.
abbrev pub too_many_keys : Keys → Bool
too_many_keys ks = ltb most_keys (ks.already + length ks.bytes)

-- 1.10 Refusal 2 for text: a lent text has more than 96 bytes. It returns 96.
abbrev pub lent : Text → List ℕ
lent (to_commit expected text) = text
lent (to_spell text) = text

abbrev pub too_much_text : Text → Bool
too_much_text t = ltb most_bytes (length (lent t))

-- 1.11 Refusal 3: a byte is no letter A to Z or a to z, and in VNI no digit either. It returns the place of the first
-- such byte, from 0, with the keys already typed in front.
abbrev pub not_all_keys : Keys → Bool
not_all_keys ks = not (all (is_key ks.mode) ks.bytes)

abbrev pub allowed_before : ℕ → List ℕ → ℕ
allowed_before mode [] = 0
allowed_before mode (k ∷ ks) = elim (is_key mode k) [ true ↦ suc (allowed_before mode ks) | false ↦ 0 ]

abbrev pub place_of_byte : Keys → ℕ
place_of_byte ks = ks.already + allowed_before ks.mode ks.bytes

-- 1.12 Refusal 4: a lent output is shorter than what is to be written. It returns the bytes needed.
abbrev pub too_short : Room → Bool
too_short r = ltb r.there r.needed

abbrev pub bytes_needed : Room → ℕ
bytes_needed r = r.needed

-- 1.13 Refusal 5, of commit: the lent text is not, from its first byte to its last, what the keys show. It returns 0.
abbrev pub same_bytes : List ℕ → List ℕ → Bool
same_bytes [] [] = true
same_bytes [] (c ∷ cs) = false
same_bytes (b ∷ bs) [] = false
same_bytes (b ∷ bs) (c ∷ cs) = eqb b c && same_bytes bs cs

abbrev pub other_text : Text → Bool
other_text (to_commit expected text) = not (same_bytes text expected)
other_text (to_spell text) = false

-- 1.14 Refusal 6, of the speller: at a byte of the text no letter of the alphabet starts. It returns the place of
-- that byte, from 0.
abbrev pub is_stuck : Reading → Bool
is_stuck (stuck_at n) = true
is_stuck (reading ss) = false

abbrev pub stuck_place : Reading → ℕ
stuck_place (stuck_at n) = n
stuck_place (reading ss) = 0

abbrev pub no_letter_there : Text → Bool
no_letter_there (to_commit expected text) = false
no_letter_there (to_spell text) = is_stuck (read text)

abbrev pub place_of_no_letter : Text → ℕ
place_of_no_letter (to_commit expected text) = 0
place_of_no_letter (to_spell text) = stuck_place (read text)

-- 1.15 Refusal 7, of the speller: the letters of the text are no syllable as shown. It returns the fault.
abbrev pub fault_of : Reading → ℕ
fault_of (stuck_at n) = 0
fault_of (reading ss) = fault ss

abbrev pub fault_in : Text → ℕ
fault_in (to_commit expected text) = 0
fault_in (to_spell text) = fault_of (read text)

abbrev pub not_a_syllable : Text → Bool
not_a_syllable t = not (eqb (fault_in t) 0)

-- 1.16 Refusal 8, a count over 32: of the keys, the letters, the keys that acted, those that undid, or those that
-- were appended.
abbrev pub counts_over : Word → List Bool
counts_over w = ltb most_keys w.typed ∷ ltb most_keys w.count ∷ ltb most_keys w.acted ∷ ltb most_keys w.undone ∷ ltb most_keys w.appended ∷ []

-- 1.17 Refusal 8, a letter that the mode does not have: its base is no small letter a to z, and in VNI no digit
-- either. A number that is no letter's number is no letter of any mode.
abbrev pub base_allowed : ℕ → Letter → Bool
base_allowed mode x = is_small x.base || (eqb mode vni && is_digit x.base)

abbrev pub letter_allowed : ℕ → ℕ → Bool
letter_allowed mode n = eqb (number (letter n)) n && base_allowed mode (letter n)

-- 1.18 Refusal 8, a shape that its letter cannot carry.
abbrev pub shape_carried : Letter → Bool
shape_carried x = carries x.shape x.base

-- 1.19 Refusal 8, a digit that is marked as a capital.
abbrev pub no_capital_digit : Letter → Bool
no_capital_digit x = not (is_digit x.base && x.capital)

abbrev pub all_letters : (Letter → Bool) → List ℕ → Bool
all_letters f [] = true
all_letters f (n ∷ ns) = f (letter n) && all_letters f ns

-- 1.20 Refusal 8, by the counts: one is over 32, the letters are more than the keys, or the keys that acted, undid
-- and were appended do not add up to the keys typed.
abbrev pub count_faults : Word → List Bool
count_faults w = any (counts_over w) ∷ ltb w.typed w.count ∷ not (eqb (w.acted + w.undone + w.appended) w.typed) ∷ []

-- 1.21 Refusal 8, by what is kept: one of the keys or of the letters in use is none of the mode's, or a letter has a
-- shape that it cannot carry or is a digit with the mark of a capital.
abbrev pub held_faults : Word → List Bool
held_faults w =
    -- the keys; the letters, by 1.17,
    not (all (is_key w.mode) (take w.typed w.keys)) ∷
    not (all (letter_allowed w.mode) (take w.count w.letters)) ∷
    -- their shapes, by 1.18,
    not (all_letters shape_carried (take w.count w.letters)) ∷
    -- and the digits among them, by 1.19
    not (all_letters no_capital_digit (take w.count w.letters)) ∷
    []

-- 1.22 Refusal 8, by tone and mode: the tone is more than 5, or the mode is neither 0 nor 1.
abbrev pub tone_and_mode_faults : Word → List Bool
tone_and_mode_faults w = ltb dot w.tone ∷ wrong_mode w.mode ∷ []

-- 1.23 Refusal 8, by the places of keys: that of a key that appended or shaped a letter in use, or set the tone, is not
-- below the number of keys typed. No key may have shaped a letter or set the tone; each letter was appended by one.
abbrev pub is_place : ℕ → ℕ → Bool
is_place typed p = ltb p typed

abbrev pub is_place_or_none : ℕ → ℕ → Bool
is_place_or_none typed p = eqb p no_key || is_place typed p

abbrev pub place_faults : Word → List Bool
place_faults w =
    not (all (is_place w.typed) (take w.count w.appended_by)) ∷
    not (all (is_place_or_none w.typed) (take w.count w.shaped_by)) ∷
    not (is_place_or_none w.typed w.toned_by) ∷
    []

-- 1.24 Refusal 8: a record with any of these faults is out of range. It returns 0.
abbrev pub range_faults : Word → List Bool
range_faults w = count_faults w ++ (held_faults w ++ (tone_and_mode_faults w ++ place_faults w))

unfoldable pub out_of_range : Word → Bool
out_of_range w = any (range_faults w)

-- 1.1 An entry that cannot answer refuses, with the number of a row of the table and the number that the row returns.
pub record TableRow : Type 0 where
  pub number : ℕ
  pub when : Bool
  pub returned : ℕ

abbrev pub row : ℕ → Bool → ℕ → TableRow
row n b v = record { number = n; when = b; returned = v }

abbrev pub asks : {A : Type 0} → (A → Bool) → Option A → Bool
asks f None = false
asks f (Some x) = f x

abbrev pub value : {A : Type 0} → (A → ℕ) → Option A → ℕ
value f None = 0
value f (Some x) = f x

abbrev pub table : Call → List TableRow
table c =
    row 8 (asks out_of_range c.record?) 0 ∷
    row 1 (asks wrong_mode c.mode?) 0 ∷
    row 2 (asks too_many_keys c.keys?) most_keys ∷
    row 2 (asks too_much_text c.text?) most_bytes ∷
    row 3 (asks not_all_keys c.keys?) (value place_of_byte c.keys?) ∷
    row 6 (asks no_letter_there c.text?) (value place_of_no_letter c.text?) ∷
    row 7 (asks not_a_syllable c.text?) (value fault_in c.text?) ∷
    row 5 (asks other_text c.text?) 0 ∷
    row 4 (asks too_short c.room?) (value bytes_needed c.room?) ∷
    []

-- 1.2 The refusal is the first row that holds; where no row holds there is none.
abbrev pub first_row : List TableRow → Option Refusal
first_row [] = None
first_row (r ∷ rs) = elim r.when [ true ↦ Some (record { number = r.number; value = r.returned }) | false ↦ first_row rs ]

unfoldable pub refusal : Call → Option Refusal
refusal c = first_row (table c)

-- 1.25 A refusal is of the first row that holds when the row holds and no earlier one does.
pub data FirstOf : List TableRow → Refusal → Type 0 where
  this_row : {r : TableRow} {rs : List TableRow} → T r.when → FirstOf (r ∷ rs) (record { number = r.number; value = r.returned })
  later_row : {r : TableRow} {rs : List TableRow} {x : Refusal} → T (not r.when) → FirstOf rs x → FirstOf (r ∷ rs) x

-- 1.26 Nothing is refused when no row holds.
pub data NoneHolds : List TableRow → Type 0 where
  no_rows : NoneHolds []
  not_this : {r : TableRow} {rs : List TableRow} → T (not r.when) → NoneHolds rs → NoneHolds (r ∷ rs)
