-- Whatever the contract of an entry allows is what the definition says.
use Rattle.std.specs.Prelude.{Option, Result, ⊤}
use mathlib.Core.Path.{◌≡◌, sym, ◌∙◌}
use mathlib.Core.List.{List}
use Prim.Native.Nat.{ℕ}
use lib.ListN.{drop}
use Rattle.rules.specs.WhatComesBack.{start as start_of, step as step_of, type_all, show as show_of, verdict_answer, place_answer, decision_answer, commit as commit_of, commit_answer, spell as spell_of}
use Rattle.rules.specs.declared.Word.{Word}
use Rattle.rules.specs.declared.Start.{Start}
use Rattle.rules.specs.declared.Step.{Step}
use Rattle.rules.specs.declared.TypeAll.{TypeAll}
use Rattle.lines.specs.Programs.{line_answer}
use Rattle.lines.specs.declared.Program.{Program}
use Rattle.session.specs.declared.Session.{Session}
use Rattle.groups.specs.Numbers.{written, number, held}
use Rattle.groups.specs.declared.Groups.{Groups}
use Rattle.recording.specs.Recordings.{step_at, begin}
use Rattle.recording.specs.Drills.{written_drill}
use Rattle.recording.specs.declared.Progress.{Progress}
use Rattle.recording.specs.declared.Stepped.{Stepped as SteppedOn}
use Rattle.reader.specs.declared.Reader.{Reader}
use Rattle.replay.specs.Replays.{replayed}
use Rattle.replay.specs.declared.ReplayAnswer.{ReplayAnswer}
use Rattle.promises.specs.ContractsAllow.{StartAllows, StepAllows, TypeAllows, ShowAllows, PlaceAllows, VerdictAllows, DecisionAllows, CommitAllows, QuestionAllows, SpellAllows, LineAllows, KeyAllows}
use Rattle.promises.specs.RecordedContracts.{NumberAllows, WrittenAllows, BeginAllows, PressAllows, RecordAllows, NextAllows, ReplayAllows}
use Rattle.rules.specs.declared.Refusal.{Refusal}
use Rattle.rules.specs.declared.Outcome.{Outcome}
use Rattle.rules.specs.declared.Decision.{Decision}
use Rattle.groups.specs.declared.Number.{Number}
use Rattle.recording.specs.declared.Begun.{Begun}

pub started : {m : ℕ} {r : Start} → StartAllows m r → r ≡ start_of m
started a = a.post

pub stepped : {w : Word} {k : ℕ} {r : Step} → StepAllows w k r → r ≡ step_of w k
stepped a = a.post

pub typed_as : {m : ℕ} {ks : List ℕ} {r : TypeAll} → TypeAllows m ks r → r ≡ type_all m ks
typed_as a = a.post ∙ (λ i. type_all (a.mode i) (a.keys i))

module _ {w : Word} {before : List ℕ} {r : Result ℕ Refusal} {after : List ℕ} (a : ShowAllows w before r after) where
  pub shown_answer : r ≡ (show_of w before).answer
  shown_answer = a.post.0 ∙ (λ i. (show_of (a.of_word i) (a.at_entry i)).answer)

  pub shown_output : after ≡ (show_of w before).output
  shown_output = sym a.at_exit ∙ a.post.1 ∙ (λ i. (show_of (a.of_word i) (a.at_entry i)).output)

pub placed : {w : Word} {r : Result (Option ℕ) Refusal} → PlaceAllows w r → r ≡ place_answer w
placed a = a.post

pub judged : {w : Word} {r : Result ℕ Refusal} → VerdictAllows w r → r ≡ verdict_answer w
judged a = a.post

pub decided : {w : Word} {r : Result Decision Refusal} → DecisionAllows w r → r ≡ decision_answer w
decided a = a.post

pub handed_back_law : {m : ℕ} {ks text part : List ℕ} → CommitAllows m ks text part → part ≡ commit_of m ks text
handed_back_law a = sym a.part_is ∙ a.post.0 ∙ (λ i. commit_of (a.mode i) (a.keys i) (a.of_text i))

pub asked : {m : ℕ} {ks text : List ℕ} {r : Result ⊤ Refusal} → QuestionAllows m ks text r → r ≡ commit_answer m ks text
asked a = a.post ∙ (λ i. commit_answer (a.mode i) (a.keys i) (a.of_text i))

module _ {m : ℕ} {text before : List ℕ} {r : Result ℕ Refusal} {after : List ℕ} (a : SpellAllows m text before r after) where
  pub spelled_answer : r ≡ (spell_of m text before).answer
  spelled_answer = a.post.0 ∙ (λ i. (spell_of (a.mode i) (a.of_text i) (a.at_entry i)).answer)

  pub spelled_output : after ≡ (spell_of m text before).output
  spelled_output = sym a.at_exit ∙ a.post.1 ∙ (λ i. (spell_of (a.mode i) (a.of_text i) (a.at_entry i)).output)

module _ {p : Program} {line before : List ℕ} {r : Result ℕ Refusal} {after : List ℕ} (a : LineAllows p line before r after) where
  pub line_answer_law : r ≡ (line_answer p line before).answer
  line_answer_law = a.post.0 ∙ (λ i. (line_answer (a.of_program i) (a.of_line i) (a.at_entry i)).answer)

  pub line_output : after ≡ (line_answer p line before).output
  line_output = sym a.at_exit ∙ a.post.1 ∙ (λ i. (line_answer (a.of_program i) (a.of_line i) (a.at_entry i)).output)

module _ {before after : Session} {k : ℕ} {r : Result Outcome Refusal} (a : KeyAllows before k r after) where
  pub key_answer : r ≡ (step_of before.word k).answer
  key_answer = a.post.0 ∙ (λ i. (step_of (a.at_entry i).word (a.key i)).answer)

  pub key_session : after ≡ record { word = (step_of before.word k).word }
  key_session = sym a.at_exit ∙ a.post.1 ∙ (λ i. record { word = (step_of (a.at_entry i).word (a.key i)).word })

-- and of the entries for recorded drills
pub number_read : {bs : List ℕ} {at : ℕ} {r : Option Number} → NumberAllows bs at r → r ≡ (number (drop at bs))
number_read a = a.post ∙ (λ i. (number (drop (a.of_place i) (a.of_bytes i))))

pub number_written : {n : ℕ} {g : Groups} → WrittenAllows n g → g ≡ held (written n)
number_written a = a.post

pub begun_as : {s : List ℕ} {r : Result Begun Refusal} → BeginAllows s r → r ≡ begin s
begun_as a = a.post ∙ (λ i. begin (a.of_recording i))

pub pressed_as : {s : List ℕ} {at : ℕ} {p : Progress} {t : SteppedOn} → PressAllows s at p t → t ≡ step_at s at p
pressed_as a = a.post ∙ (λ i. step_at (a.of_recording i) (a.of_place i) (a.of_progress i))

module _ {m : ℕ} {ns before : List ℕ} {r : Result ℕ Refusal} {after : List ℕ} (a : RecordAllows m ns before r after) where
  pub recorded_answer : r ≡ (written_drill m ns before).answer
  recorded_answer = a.post.0 ∙ (λ i. (written_drill (a.of_mode i) (a.of_presses i) (a.at_entry i)).answer)

  pub recorded_output : after ≡ (written_drill m ns before).output
  recorded_output = sym a.at_exit ∙ a.post.1 ∙ (λ i. (written_drill (a.of_mode i) (a.of_presses i) (a.at_entry i)).output)

module _ {before after : Reader} {p : Progress} {t : SteppedOn} (a : NextAllows before p t after) where
  pub next_step : t ≡ step_at before.recording.now before.at p
  next_step = a.post.0 ∙ (λ i. step_at (a.at_entry i).recording.now (a.at_entry i).at (a.of_progress i))

  pub next_reader : after ≡ record { recording = before.recording; at = t.at }
  next_reader =
      sym a.at_exit ∙
      (λ i. record { recording = a.post.1 i; at = (a.post.2 ∙ sym (λ j. (a.post.0 j).at)) i }) ∙
      (λ i. record { recording = (a.at_entry i).recording; at = t.at })

module _ {s before : List ℕ} {r : ReplayAnswer} {after : List ℕ} (a : ReplayAllows s before r after) where
  pub replay_answer : r ≡ (replayed s before).result
  replay_answer = a.post.0 ∙ (λ i. (replayed (a.of_recording i) (a.at_entry i)).result)

  pub replay_output : after ≡ (replayed s before).output
  replay_output = sym a.at_exit ∙ a.post.1 ∙ (λ i. (replayed (a.of_recording i) (a.at_entry i)).output)
