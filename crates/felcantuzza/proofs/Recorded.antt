-- What the calls for recorded drills say of the answers that they are given; and one that is refused leaves output, place and numbers as they were.
use Rattle.std.specs.Prelude.{Option, Some, None, Result, Ok, Err}
use mathlib.Core.Path.{◌≡◌, refl, sym, ap, ◌∙◌}
use mathlib.Core.Bool.{Bool, true, false}
use mathlib.Core.List.{List, [], ◌∷◌, map}
use Prim.Native.Nat.{ℕ, suc}
use Rattle.rules.specs.AnswersInNumbers.{write_says}
use Rattle.rules.specs.Refusals.{first_row, wrong_mode}
use Rattle.rules.specs.WhatComesBack.{Written}
use Rattle.rules.specs.declared.Refusal.{Refusal}
use Rattle.output.specs.Front.{put}
use Rattle.output.proofs.Rooms.{refused_put}
use Rattle.recording.specs.Recordings.{none_yet, onward, press_rows, checked_of, checked, Recorded, refused_at, drill, recorded, step_at}
use Rattle.recording.specs.Recordings as Reading
use Rattle.recording.specs.Drills.{press_in, drill_bytes, unless, checked_from, written_after, written_if, written_drill}
use Rattle.recording.specs.declared.Progress.{Progress}
use Rattle.recording.specs.declared.KeyPress.{KeyPress}
use Rattle.recording.specs.declared.Stepped.{Stepped}
use Rattle.recording.proofs.Meets.{Meets, the_end, a_refusal, a_press, meets}
use Rattle.replay.specs.Replays.{words_from, of_words, of_recorded, replayed}
use Rattle.replay.specs.declared.ReplayAnswer.{ReplayAnswer}
use Rattle.felcantuzza.specs.Calls.{returned, number_by, only_one, unless_refused}
use Rattle.felcantuzza.proofs.CallAnswers.{its_number}
use Rattle.felcantuzza.specs.Recordings as Recordings
use Rattle.felcantuzza.specs.Recordings.{begin_says, place_after, press_says, so_far, seven_numbers}
use Rattle.recording.specs.declared.Begun.{Begun}

-- what is refused leaves the output
abbrev Stays : List ℕ → Refusal → Written → Type 0
Stays out x w = w.answer ≡ Err x → w.output ≡ out

-- the writer: refused for its mode, for a press, or for want of room
module _ (mode : ℕ) (xs : List KeyPress) (out : List ℕ) (x : Refusal) where
  none_faulty : Stays out x (put (drill_bytes mode xs) out)
  none_faulty e = refused_put (drill_bytes mode xs) out x (ap write_says e)

  by_press : (p : Progress) (i : ℕ) (ys : List KeyPress) → Stays out x (written_after (checked_from p i ys) mode xs out)
  unfolding checked
  by_press p i [] = none_faulty
  by_press p i (y ∷ ys) = go (first_row (press_rows p y i i)) (by_press (onward p y) (suc i) ys)
    where
      go : (o : Option Refusal) → Stays out x (written_after (checked_from (onward p y) (suc i) ys) mode xs out) → Stays out x (written_after (unless (checked_of o) (checked_from (onward p y) (suc i) ys)) mode xs out)
      go None later = later
      go (Some r) later = λ e. refl

  by_mode : (b : Bool) → Stays out x (written_if b mode xs out)
  by_mode true = λ e. refl
  by_mode false = by_press (none_yet mode) 0 xs

module _ (mode : ℕ) (presses out : List ℕ) where
  pub written : {a : Result ℕ Refusal} → a ≡ (written_drill mode presses out).answer → {x : Result ℕ Refusal} → a ≡ x → Recordings.record_drill mode presses out ≡ write_says x
  unfolding Recordings.record_drill
  written p q = ap write_says (sym p ∙ q)

  pub written_number : {a : Result ℕ Refusal} → a ≡ (written_drill mode presses out).answer → a ≡ number_by only_one (Recordings.record_drill mode presses out)
  written_number {a} p = its_number a ∙ ap (number_by only_one) (sym (written p refl))

  pub refused_record : {a : Result ℕ Refusal} → a ≡ (written_drill mode presses out).answer → (x : Refusal) → a ≡ Err x → (written_drill mode presses out).output ≡ out
  unfolding written_drill
  refused_record p x q = by_mode mode (map press_in presses) out x (wrong_mode mode) (sym p ∙ q)

  pub output_left : (written_drill mode presses out).output ≡ Recordings.record_output mode presses out
  unfolding written_drill Recordings.record_drill
  output_left = go (written_drill mode presses out).answer refl
    where
      left : Result ℕ Refusal → List ℕ
      left a = unless_refused (write_says a) (written_drill mode presses out).output out

      go : (a : Result ℕ Refusal) → (written_drill mode presses out).answer ≡ a → (written_drill mode presses out).output ≡ left (written_drill mode presses out).answer
      go (Ok n) q = sym (ap left q)
      go (Err x) q = refused_record refl x q ∙ sym (ap left q)

module _ (s : List ℕ) {a x : Result Begun Refusal} (p : a ≡ Reading.begin s) (q : a ≡ x) where
  pub begun : Recordings.begin s ≡ begin_says x
  unfolding Recordings.begin
  begun = ap begin_says (sym p ∙ q)

  pub begun_at : (old : ℕ) → place_after x old ≡ Recordings.begin_at s old
  begun_at old = ap (λ (y : Result Begun Refusal). place_after y old) (sym q ∙ p)

-- a call that returns another number than 0 leaves the lent place
pub refused_begin : (s : List ℕ) (old : ℕ) → (returned (Recordings.begin s) ≡ 0 → ⊥) → Recordings.begin_at s old ≡ old
unfolding Recordings.begin
refused_begin s old = go (Reading.begin s)
  where
    go : (b : Result Begun Refusal) → (returned (begin_says b) ≡ 0 → ⊥) → place_after b old ≡ old
    go (Ok b) h = absurd (h refl)
    go (Err r) h = refl

-- where a step leads: the place, the keys of the word that has begun, and the milliseconds
abbrev pub Leads : Stepped → (at n ms : ℕ) → Type 0
Leads t at n ms = (t.at ≡ at) × (t.progress.in_word ≡ n) × (t.progress.milliseconds ≡ ms)

module _ (s : List ℕ) (mode at n ms : ℕ) where
  -- a call that returns another number than 0 leaves all three
  pub refused_next : (returned (Recordings.next s mode at n ms) ≡ 0 → ⊥) → Leads (step_at s at (so_far mode n ms)) at n ms
  unfolding Recordings.next
  refused_next = go (meets s at (so_far mode n ms))
    where
      go : {t : Stepped} → Meets s at (so_far mode n ms) t → (returned (press_says t.press) ≡ 0 → ⊥) → Leads t at n ms
      go (the_end l) h = (refl, refl, refl)
      go (a_refusal r l) h = (refl, refl, refl)
      go (a_press x next c l i b) h = absurd (h refl)

  module _ {t : Stepped} (p : t ≡ step_at s at (so_far mode n ms)) where
    pub stepped : Recordings.next s mode at n ms ≡ press_says t.press
    unfolding Recordings.next
    stepped = ap press_says (sym (ap (λ (y : Stepped). y.press) p))

    pub moved : Leads t (Recordings.next_at s mode at n ms) (Recordings.next_in_word s mode at n ms) (Recordings.next_milliseconds s mode at n ms)
    moved = (ap (λ (y : Stepped). y.at) p, ap (λ (y : Stepped). y.progress.in_word) p, ap (λ (y : Stepped). y.progress.milliseconds) p)

module _ (s out : List ℕ) {t : ReplayAnswer} (p : t ≡ (replayed s out).result) where
  pub heard : {x : Result ℕ Refusal} → t.answer ≡ x → Recordings.replay s out ≡ write_says x
  unfolding Recordings.replay
  heard q = ap write_says (sym (ap (λ (y : ReplayAnswer). y.answer) p) ∙ q)

  pub summed : seven_numbers t.summary ≡ seven_numbers (replayed s out).result.summary
  summed = ap (λ (y : ReplayAnswer). seven_numbers y.summary) p

  pub refused_replay : (x : Refusal) → t.answer ≡ Err x → (replayed s out).output ≡ out
  unfolding replayed
  refused_replay x q = go (recorded s) (sym (ap (λ (y : ReplayAnswer). y.answer) p) ∙ q)
    where
      go : (d : Recorded) → (of_recorded d out).result.answer ≡ Err x → (of_recorded d out).output ≡ out
      go (refused_at r) e = refl
      go (drill mode xs) e = refused_put (of_words mode (words_from [] xs)).text out x (ap write_says e)
