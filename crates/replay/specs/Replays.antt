-- 24 Replay (docs/RULES.md): the words, what is committed of each, the summary, and what comes back.
use Rattle.std.specs.Prelude.{true, false, List, [], ◌∷◌, ◌++◌, ℕ, ◌+◌, length, Option, Some, None, Result, Ok, Err}
use Rattle.rules.specs.TheWord.{Typed, at_front}
use Rattle.rules.specs.CodePoints.{shown}
use Rattle.rules.specs.Decision.{decision, handed_back}
use Rattle.rules.specs.Refusals.{refusal}
use Rattle.rules.specs.WhatComesBack.{Written, typed, type_call}
use Rattle.rules.specs.Drill.{newline}
use Rattle.rules.specs.declared.Refusal.{Refusal}
use Rattle.rules.specs.declared.Decision.{Decision}
use Rattle.rules.specs.declared.Decision.TheVariants.{Keep, Restore}
use Rattle.output.specs.Front.{put}
use Rattle.recording.specs.Recordings.{is_space, Recorded, refused_at, drill, recorded}
use Rattle.recording.specs.declared.KeyPress.{KeyPress}
use Rattle.replay.specs.declared.Summary.{Summary}
use Rattle.replay.specs.declared.ReplayAnswer.{ReplayAnswer}
use Rattle.replay.specs.declared.WordDone.{WordDone}

-- 24.1 The words of a drill are the keys between its spaces, some or none, and those after the last space, if there
-- are any.
abbrev pub last_word : List ℕ → List (List ℕ)
last_word [] = []
last_word (k ∷ ks) = (k ∷ ks) ∷ []

abbrev pub words_from : List ℕ → List KeyPress → List (List ℕ)
words_from ks [] = last_word ks
words_from ks (x ∷ xs) = elim (is_space x.key) [ true ↦ ks ∷ words_from [] xs | false ↦ words_from (ks ++ (x.key ∷ [])) xs ]

-- 24.2 Each word is typed by itself, as a list, and committed: the shown text or its keys, by the decision. A newline
-- stands behind it.
abbrev pub committed_line : Typed → List ℕ
committed_line z = handed_back (decision z) (shown z.state) z.keys ++ (newline ∷ [])

-- 24.3 Of each word are counted: the word, that it was kept or restored, and its keys that acted, undid and were
-- appended.
pub record Tally : Type 0 where
  pub text : List ℕ
  pub words : ℕ
  pub kept : ℕ
  pub restored : ℕ
  pub acted : ℕ
  pub undone : ℕ
  pub appended : ℕ

abbrev pub if_kept : Decision → ℕ
if_kept Keep = 1
if_kept Restore = 0

abbrev pub if_restored : Decision → ℕ
if_restored Keep = 0
if_restored Restore = 1

abbrev pub of_word : Typed → Tally
of_word z = record { text = committed_line z; words = 1; kept = if_kept (decision z); restored = if_restored (decision z); acted = z.acted; undone = z.undone; appended = z.appended }

-- 24.4 Of several words the lines stand one behind the other, and the numbers are added.
abbrev pub nothing : Tally
nothing = record { text = []; words = 0; kept = 0; restored = 0; acted = 0; undone = 0; appended = 0 }

abbrev pub together : Tally → Tally → Tally
together t u =
    record {
      text = t.text ++ u.text;
      words = t.words + u.words;
      kept = t.kept + u.kept;
      restored = t.restored + u.restored;
      acted = t.acted + u.acted;
      undone = t.undone + u.undone;
      appended = t.appended + u.appended;
    }

abbrev pub of_words : ℕ → List (List ℕ) → Tally
of_words mode [] = nothing
of_words mode (ks ∷ kss) = together (of_word (typed mode ks)) (of_words mode kss)

-- 24.5 The milliseconds of a drill are those of all presses, those of spaces too.
abbrev pub milliseconds : List KeyPress → ℕ
milliseconds [] = 0
milliseconds (x ∷ xs) = x.milliseconds + milliseconds xs

-- 24.6 The summary is seven numbers: words, kept, restored, acted, undone, appended, milliseconds.
abbrev pub summary : Tally → ℕ → Summary
summary t ms = record { words = t.words; kept = t.kept; restored = t.restored; acted = t.acted; undone = t.undone; appended = t.appended; milliseconds = ms }

-- 24.7 Replay gives the lines at the front of the output, and the summary. A recording that cannot be read is refused
-- first, and then 4 with the bytes needed, where the output is too short. Refused, the output is as it was, and the
-- summary is all zeros.
pub record Replayed : Type 0 where
  pub result : ReplayAnswer
  pub output : List ℕ

abbrev pub summary_if : Result ℕ Refusal → Summary → Summary
summary_if (Ok n) s = s
summary_if (Err r) s = summary nothing 0

abbrev pub answered_by : Written → Summary → Replayed
answered_by w s = record { result = record { answer = w.answer; summary = summary_if w.answer s }; output = w.output }

abbrev pub of_drill : ℕ → List KeyPress → List ℕ → Replayed
of_drill mode xs out = answered_by (put (of_words mode (words_from [] xs)).text out) (summary (of_words mode (words_from [] xs)) (milliseconds xs))

abbrev pub refused_replay : Refusal → List ℕ → Replayed
refused_replay r out = record { result = record { answer = Err r; summary = summary nothing 0 }; output = out }

abbrev pub of_recorded : Recorded → List ℕ → Replayed
of_recorded (refused_at r) out = refused_replay r out
of_recorded (drill mode xs) out = of_drill mode xs out

unfoldable pub replayed : List ℕ → List ℕ → Replayed
replayed s out = of_recorded (recorded s) out

-- 24.8 One word by itself gives its line, the decision and the three counts. It is refused as a list is that is
-- typed.
pub record WordReplayed : Type 0 where
  pub answer : Result WordDone Refusal
  pub line : List ℕ

abbrev pub done_of : Typed → WordDone
done_of z = record { bytes = length (committed_line z); decision = decision z; acted = z.acted; undone = z.undone; appended = z.appended }

abbrev pub word_or : Option Refusal → ℕ → List ℕ → List ℕ → WordReplayed
word_or (Some r) mode ks line = record { answer = Err r; line = line }
word_or None mode ks line = record { answer = Ok (done_of (typed mode ks)); line = at_front (committed_line (typed mode ks)) line }

unfoldable pub word_replayed : ℕ → List ℕ → List ℕ → WordReplayed
word_replayed mode ks line = word_or (refusal (type_call mode ks)) mode ks line
