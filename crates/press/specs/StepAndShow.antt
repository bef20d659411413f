-- A key typed and the word shown, from `step` and `show` of the rules: refused as the step refuses; else as show of the new word refuses; else done. After a refusal word and output are unchanged. And the same of a word that is lent as its record's bytes.
use Rattle.std.specs.Prelude.{Bool, true, false, List, ℕ, Result, Ok, Err}
use Rattle.rules.specs.WhatComesBack.{step, show}
use Rattle.rules.specs.declared.Word.{Word}
use Rattle.rules.specs.declared.Outcome.{Outcome}
use Rattle.press.specs.declared.StepShown.{StepShown}
use Rattle.rules.specs.declared.Refusal.{Refusal}
use Rattle.layout.specs.Places.{record_written, is_record, held}

-- the answer with the word, and the output at exit
pub record Shown : Type 0 where
  pub result : StepShown
  pub output : List ℕ

abbrev pub show_or : Result ℕ Refusal → Outcome → Word → Word → StepShown
show_or (Ok n) o old new = record { answer = Ok (o, n); word = new }
show_or (Err r) o old new = record { answer = Err r; word = old }

abbrev pub pressed_or : Result Outcome Refusal → Word → Word → List ℕ → Shown
pressed_or (Ok o) old new out = record { result = show_or (show new out).answer o old new; output = (show new out).output }
pressed_or (Err r) old new out = record { result = record { answer = Err r; word = old }; output = out }

unfoldable pub step_and_show : Word → ℕ → List ℕ → Shown
step_and_show w k out = pressed_or (step w k).answer w (step w k).word out

-- of a word that is lent as its record's bytes: the answer, and the bytes and the output at exit
pub record ShownAt : Type 0 where
  pub answer : Result (Outcome × ℕ) Refusal
  pub bytes : List ℕ
  pub output : List ℕ

-- the new word's bytes where it is done; where it is refused they are as they were
abbrev pub bytes_after : Result (Outcome × ℕ) Refusal → Word → List ℕ → List ℕ
bytes_after (Ok done) new old = record_written new old
bytes_after (Err r) new old = old

abbrev pub leaving : Shown → List ℕ → ShownAt
leaving s old = record { answer = s.result.answer; bytes = bytes_after s.result.answer s.result.word old; output = s.output }

-- refused: bytes and output as they were
abbrev pub untouched : Refusal → List ℕ → List ℕ → ShownAt
untouched r old out = record { answer = Err r; bytes = old; output = out }

-- bytes that are no record are refusal 8 with 0
abbrev pub press_if : Bool → Word → ℕ → List ℕ → List ℕ → ShownAt
press_if true w key old out = leaving (step_and_show w key out) old
press_if false w key old out = untouched (record { number = 8; value = 0 }) old out

unfoldable pub press_at : List ℕ → ℕ → List ℕ → ShownAt
press_at lent key out = press_if (is_record lent) (held lent) key lent out
