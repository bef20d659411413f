-- 23 Writing a drill (docs/RULES.md): the bytes of a drill, and what the writer refuses.
use Rattle.std.specs.Prelude.{Bool, true, false, List, [], ◌∷◌, ◌++◌, map, ℕ, suc, ◌+◌, ◌*◌, ◌/◌, ◌%◌, ltb, Result, Ok, Err, ⊤}
use Rattle.rules.specs.Refusals.{wrong_mode}
use Rattle.rules.specs.WhatComesBack.{Written}
use Rattle.rules.specs.declared.Refusal.{Refusal}
use Rattle.output.specs.Front.{put}
use Rattle.groups.specs.Numbers.{limit, written}
use Rattle.recording.specs.Recordings.{press, none_yet, onward, refused_for, checked}
use Rattle.recording.specs.declared.Progress.{Progress}
use Rattle.recording.specs.declared.KeyPress.{KeyPress}

-- 23.1 The writer is handed each press as one number: the key, and 256 times the milliseconds.
abbrev pub press_in : ℕ → KeyPress
press_in n = press (n / 256) (n % 256)

abbrev pub number_of : KeyPress → ℕ
number_of x = x.key + 256 * x.milliseconds

-- 23.2 A time that a recording can hold is below 2 to the 32.
abbrev pub short_time : ℕ → Bool
short_time n = ltb (press_in n).milliseconds limit

-- 23.3 The recording of a drill is its mode, and then for each press its milliseconds and its key, each as a number.
abbrev pub press_bytes : KeyPress → List ℕ
press_bytes x = written x.milliseconds ++ written x.key

abbrev pub presses_bytes : List KeyPress → List ℕ
presses_bytes [] = []
presses_bytes (x ∷ xs) = press_bytes x ++ presses_bytes xs

abbrev pub drill_bytes : ℕ → List KeyPress → List ℕ
drill_bytes mode xs = written mode ++ presses_bytes xs

-- 23.4 The first faulty press is refused, 2, 3 or 11, with its place among the presses, from 0.
abbrev pub unless : Result ⊤ Refusal → Result ⊤ Refusal → Result ⊤ Refusal
unless (Ok tt) later = later
unless (Err r) later = Err r

abbrev pub checked_from : Progress → ℕ → List KeyPress → Result ⊤ Refusal
checked_from p i [] = Ok tt
checked_from p i (x ∷ xs) = unless (checked p x i i) (checked_from (onward p x) (suc i) xs)

-- 23.5 The writer refuses 1 with 0, then the first faulty press, then 4 with the bytes needed. Refused, the output is
-- as it was.
abbrev pub refused_writing : Refusal → List ℕ → Written
refused_writing r out = record { answer = Err r; output = out }

abbrev pub written_after : Result ⊤ Refusal → ℕ → List KeyPress → List ℕ → Written
written_after (Err r) mode xs out = refused_writing r out
written_after (Ok tt) mode xs out = put (drill_bytes mode xs) out

abbrev pub written_if : Bool → ℕ → List KeyPress → List ℕ → Written
written_if true mode xs out = refused_writing (refused_for 1 0) out
written_if false mode xs out = written_after (checked_from (none_yet mode) 0 xs) mode xs out

unfoldable pub written_drill : ℕ → List ℕ → List ℕ → Written
written_drill mode ns out = written_if (wrong_mode mode) mode (map press_in ns) out
