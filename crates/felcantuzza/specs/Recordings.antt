-- What each call for recorded drills says, from the answers of `recording` and `replay` and their numbers, and the lent bytes and numbers when it returns.
use Rattle.std.specs.Prelude.{List, [], ◌∷◌, ℕ, Option, Some, None, Result, Ok, Err}
use Rattle.rules.specs.AnswersInNumbers.{Says, answered, refusing, write_says}
use Rattle.recording.specs.Recordings.{step_at}
use Rattle.recording.specs.Recordings as Recorded
use Rattle.recording.specs.Drills.{number_of, written_drill}
use Rattle.recording.specs.declared.Progress.{Progress}
use Rattle.replay.specs.Replays.{replayed}
use Rattle.replay.specs.declared.Summary.{Summary}
use Rattle.felcantuzza.specs.Calls.{unless_refused}
use Rattle.rules.specs.declared.Refusal.{Refusal}
use Rattle.recording.specs.declared.Begun.{Begun}
use Rattle.recording.specs.declared.KeyPress.{KeyPress}

-- The writer: the bytes written.
unfoldable pub record_drill : ℕ → List ℕ → List ℕ → Says
record_drill mode presses out = write_says (written_drill mode presses out).answer

abbrev pub record_output : ℕ → List ℕ → List ℕ → List ℕ
record_output mode presses out = unless_refused (record_drill mode presses out) (written_drill mode presses out).output out

-- What stands in front of all presses: the mode, and the place behind it; a refused call leaves the place.
abbrev pub begin_says : Result Begun Refusal → Says
begin_says (Ok b) = answered (b.progress.mode ∷ [])
begin_says (Err r) = refusing r

abbrev pub place_after : Result Begun Refusal → ℕ → ℕ
place_after (Ok b) old = b.at
place_after (Err r) old = old

unfoldable pub begin : List ℕ → Says
begin s = begin_says (Recorded.begin s)

abbrev pub begin_at : List ℕ → ℕ → ℕ
begin_at s old = place_after (Recorded.begin s) old

-- One press: its key and 256 times its milliseconds, and 0 at the end, where no press is: there is no key 0.
abbrev pub press_says : Result (Option KeyPress) Refusal → Says
press_says (Ok (Some x)) = answered (number_of x ∷ [])
press_says (Ok None) = answered (0 ∷ [])
press_says (Err r) = refusing r

abbrev pub so_far : (mode in_word milliseconds : ℕ) → Progress
so_far mode n ms = record { mode = mode; in_word = n; milliseconds = ms }

unfoldable pub next : List ℕ → (mode at in_word milliseconds : ℕ) → Says
next s mode at n ms = press_says (step_at s at (so_far mode n ms)).press

abbrev pub next_at : List ℕ → (mode at in_word milliseconds : ℕ) → ℕ
next_at s mode at n ms = (step_at s at (so_far mode n ms)).at

abbrev pub next_in_word : List ℕ → (mode at in_word milliseconds : ℕ) → ℕ
next_in_word s mode at n ms = (step_at s at (so_far mode n ms)).progress.in_word

abbrev pub next_milliseconds : List ℕ → (mode at in_word milliseconds : ℕ) → ℕ
next_milliseconds s mode at n ms = (step_at s at (so_far mode n ms)).progress.milliseconds

-- The whole drill: the bytes of the committed words, and the summary as seven numbers.
abbrev pub seven_numbers : Summary → List ℕ
seven_numbers s = s.words ∷ s.kept ∷ s.restored ∷ s.acted ∷ s.undone ∷ s.appended ∷ s.milliseconds ∷ []

unfoldable pub replay : List ℕ → List ℕ → Says
replay s out = write_says (replayed s out).result.answer

abbrev pub replay_output : List ℕ → List ℕ → List ℕ
replay_output s out = unless_refused (replay s out) (replayed s out).output out

abbrev pub replay_summary : List ℕ → List ℕ → List ℕ → List ℕ
replay_summary s out old = unless_refused (replay s out) (seven_numbers (replayed s out).result.summary) old
