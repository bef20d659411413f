-- 22 Reading a recording (docs/RULES.md): one step, the mode, and the whole reading.
use Rattle.std.specs.Prelude.{Bool, true, false, not, ◌&&◌, ◌||◌, List, [], ◌∷◌, ℕ, zero, suc, ◌+◌, eqb, leb, length, drop, Option, Some, None, Result, Ok, Err, ⊤}
use Rattle.rules.specs.TheWord.{most_keys}
use Rattle.rules.specs.KeyRoles.{is_key}
use Rattle.rules.specs.Refusals.{TableRow, row, first_row, wrong_mode}
use Rattle.rules.specs.declared.Refusal.{Refusal}
use Rattle.groups.specs.Numbers.{limit, number}
use Rattle.groups.specs.declared.Number.{Number}
use Rattle.recording.specs.declared.Progress.{Progress}
use Rattle.recording.specs.declared.KeyPress.{KeyPress}
use Rattle.recording.specs.declared.Stepped.{Stepped}
use Rattle.recording.specs.declared.Begun.{Begun}

-- 22.1 A recording holds the mode, and then for each press of a key the milliseconds since the last press and the
-- key, each as a number. Key 32, the space, ends a word.
abbrev pub space : ℕ
space = 32

abbrev pub is_space : ℕ → Bool
is_space key = eqb key space

-- 22.2 A press is a key, so many milliseconds after the last one.
abbrev pub press : (milliseconds key : ℕ) → KeyPress
press t k = record { milliseconds = t; key = k }

-- 22.3 How far a drill has come is its mode, the number of keys of the word that has begun, and the milliseconds so
-- far. With a press more the word has one key more, or after a space none, and its milliseconds are added.
abbrev pub none_yet : ℕ → Progress
none_yet mode = record { mode = mode; in_word = 0; milliseconds = 0 }

abbrev pub in_word : Bool → ℕ → ℕ
in_word true n = 0
in_word false n = suc n

abbrev pub onward : Progress → KeyPress → Progress
onward p x = record { mode = p.mode; in_word = in_word (is_space x.key) p.in_word; milliseconds = p.milliseconds + x.milliseconds }

-- 22.4 A press is refused by the first of three rows that holds: 2, where the word has 32 keys already and the key is
-- no space; 3, where the key is neither a space nor a key of the mode; 11, where all milliseconds together are over 2
-- to the 32 less 1.
abbrev pub word_full : Progress → ℕ → Bool
word_full p key = not (is_space key) && leb most_keys p.in_word

abbrev pub not_allowed : Progress → ℕ → Bool
not_allowed p key = not (is_space key || is_key p.mode key)

abbrev pub too_long : Progress → ℕ → Bool
too_long p milliseconds = leb limit (p.milliseconds + milliseconds)

abbrev pub press_rows : Progress → KeyPress → (key_at time_at : ℕ) → List TableRow
press_rows p x key_at time_at = row 2 (word_full p x.key) key_at ∷ row 3 (not_allowed p x.key) key_at ∷ row 11 (too_long p x.milliseconds) time_at ∷ []

abbrev pub refused_for : (number place : ℕ) → Refusal
refused_for n place = record { number = n; value = place }

abbrev pub checked_of : Option Refusal → Result ⊤ Refusal
checked_of None = Ok tt
checked_of (Some r) = Err r

unfoldable pub checked : Progress → KeyPress → (key_at time_at : ℕ) → Result ⊤ Refusal
checked p x key_at time_at = checked_of (first_row (press_rows p x key_at time_at))

-- 22.6 At the end of the recording, and past it, a step meets the end. After a refused step, and at the end, place
-- and progress are as they were.
abbrev pub staying : Result (Option KeyPress) Refusal → ℕ → Progress → Stepped
staying x at p = record { press = x; at = at; progress = p }

abbrev pub refused_step : ℕ → (place at : ℕ) → Progress → Stepped
refused_step n place at p = staying (Err (refused_for n place)) at p

-- 22.5 One step reads a time and the key number behind it. 10 is asked of the time and then of the key number, and
-- each returns its own place; then 2 and 3, which return the key number's place, and last 11, which returns the
-- time's.
abbrev pub press_if : Result ⊤ Refusal → KeyPress → (next at : ℕ) → Progress → Stepped
press_if (Ok tt) x next at p = record { press = Ok (Some x); at = next; progress = onward p x }
press_if (Err r) x next at p = staying (Err r) at p

abbrev pub key_read : Number → Option Number → ℕ → Progress → Stepped
key_read time None at p = refused_step 10 (at + time.groups) at p
key_read time (Some key) at p = press_if (checked p (press time.value key.value) (at + time.groups) at) (press time.value key.value) (at + time.groups + key.groups) at p

abbrev pub time_read : Option Number → List ℕ → ℕ → Progress → Stepped
time_read None bs at p = refused_step 10 at at p
time_read (Some time) bs at p = key_read time (number (drop time.groups bs)) at p

-- 22.6 At the end of the recording, and past it, a step meets the end.
abbrev pub step_from : List ℕ → ℕ → Progress → Stepped
step_from [] at p = staying (Ok None) at p
step_from (b ∷ bs) at p = time_read (number (b ∷ bs)) (b ∷ bs) at p

unfoldable pub step_at : List ℕ → ℕ → Progress → Stepped
step_at s at p = step_from (drop at s) at p

-- 22.7 The mode stands in front: 10 where no number does, 1 where it is neither 0 nor 1. Both return place 0.
abbrev pub mode_if : Bool → Number → Result Begun Refusal
mode_if true mode = Err (refused_for 1 0)
mode_if false mode = Ok (record { at = mode.groups; progress = none_yet mode.value })

abbrev pub mode_read : Option Number → Result Begun Refusal
mode_read None = Err (refused_for 10 0)
mode_read (Some mode) = mode_if (wrong_mode mode.value) mode

unfoldable pub begin : List ℕ → Result Begun Refusal
begin s = mode_read (number s)

-- 22.8 The whole reading goes from step to step. It is the drill, or the refusal of the first step that is refused. A
-- step takes two bytes or more, so there are no more steps than bytes.
pub data Reading : Type 0 where
  broken : Refusal → Reading
  presses : List KeyPress → Reading

abbrev pub before : KeyPress → Reading → Reading
before x (broken r) = broken r
before x (presses xs) = presses (x ∷ xs)

abbrev pub and_then : Result (Option KeyPress) Refusal → Reading → Reading
and_then (Ok None) later = presses []
and_then (Err r) later = broken r
and_then (Ok (Some x)) later = before x later

abbrev pub read_from : (steps : ℕ) → List ℕ → ℕ → Progress → Reading
read_from zero s at p = presses []
read_from (suc n) s at p = and_then (step_at s at p).press (read_from n s (step_at s at p).at (step_at s at p).progress)

pub data Recorded : Type 0 where
  refused_at : Refusal → Recorded
  drill : (mode : ℕ) → List KeyPress → Recorded

abbrev pub in_mode : ℕ → Reading → Recorded
in_mode mode (broken r) = refused_at r
in_mode mode (presses xs) = drill mode xs

abbrev pub recorded_after : Result Begun Refusal → List ℕ → Recorded
recorded_after (Err r) s = refused_at r
recorded_after (Ok b) s = in_mode b.progress.mode (read_from (length s) s b.at b.progress)

unfoldable pub recorded : List ℕ → Recorded
recorded s = recorded_after (begin s) s
