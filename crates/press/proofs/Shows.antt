-- A step that is not refused leaves a record in range: showing the new word needs no second check. The answers of typing and showing, case by case.
use Rattle.std.specs.Prelude.{Result, Ok, Err}
use mathlib.Core.Path.{◌≡◌, refl, sym, ap, ap₂, ◌∙◌}
use mathlib.Core.Bool.{Bool, true, false, not}
use mathlib.Core.List.{List}
use Prim.Native.Nat.{ℕ, ◌-◌}
use native.Mathlib.Omega.{arith}
use lib.Dec.{T}
use lib.ListN.{length, take}
use Rattle.rules.specs.TheWord.{most_keys}
use Rattle.rules.specs.Refusals.{out_of_range}
use Rattle.rules.specs.WhatComesBack.{Written, step}
use Rattle.rules.specs.declared.Word.{Word}
use Rattle.rules.specs.declared.Outcome.{Outcome}
use Rattle.rules.specs.declared.Refusal.{Refusal}
use Rattle.rules.specs.declared.Step.{Step}
use Rattle.rules.proofs.Tests.{is_false}
use Rattle.rules.proofs.StaysInRange.{Whole, step_in_range}
use Rattle.show.specs.Filling.{text_out}
use Rattle.show.proofs.Answers.{shown_so}
use Rattle.press.specs.StepAndShow.{Shown, show_or, pressed_or, step_and_show}
use Rattle.step.proofs.Steps.{out_of_range_law}

module _ (w : Word) (k : ℕ) (out : List ℕ) (s : Step) (e : s ≡ step w k) where
  by_step : (a : Result Outcome Refusal) → s.answer ≡ a → step_and_show w k out ≡ pressed_or a w s.word out
  unfolding step_and_show
  by_step a d = ap₂ (λ (x : Result Outcome Refusal) (y : Word). pressed_or x w y out) (sym (ap (λ (x : Step). x.answer) e) ∙ d) (sym (ap (λ (x : Step). x.word) e))

  pub refused_so : (x : Refusal) → s.answer ≡ Err x → (record { answer = Err x; word = w } ≡ (step_and_show w k out).result) × (out ≡ (step_and_show w k out).output)
  refused_so x d = let p = by_step (Err x) d in (sym (ap (λ (y : Shown). y.result) p), sym (ap (λ (y : Shown). y.output) p))

  -- of a step that is done: the new word is in range, and what comes back is the text of its letters, put into the output
  pub record Then (o : Outcome) : Type 0 where
    pub range : out_of_range s.word ≡ false
    pub long : length s.word.letters ≡ most_keys
    pub result : (a : Result ℕ Refusal) → (text_out (take (s.word.count - 0) s.word.letters) s.word.tone out).answer ≡ a → show_or a o w s.word ≡ (step_and_show w k out).result
    pub output : (text_out (take (s.word.count - 0) s.word.letters) s.word.tone out).output ≡ (step_and_show w k out).output

  module _ (whole : Whole w) (o : Outcome) (d : s.answer ≡ Ok o) where
    was_in_range : (b : Bool) → out_of_range w ≡ b → T (not b)
    was_in_range false r = tt
    was_in_range true r =
        let f : ◌≡◌ {A = Result Outcome Refusal} (Ok o) (Err (record { number = 8; value = 0 })) = sym d ∙ ap (λ (x : Step). x.answer) (e ∙ sym (out_of_range_law w k r)) in
        let z : ◌≡◌ {A = ℕ} 0 1 = cc in
        absurd (omega arith)

    pub did_so : Then o
    did_so =
        let (fine, long) = step_in_range w k whole (was_in_range (out_of_range w) refl) in
        let range = ap (λ (x : Step). out_of_range x.word) e ∙ is_false (out_of_range (step w k).word) fine in
        let t = shown_so s.word out refl range in
        let p = by_step (Ok o) d in
        record {
          range = range;
          long = ap (λ (x : Step). length x.word.letters) e ∙ long.letters;
          result = λ a r. ap (λ (x : Result ℕ Refusal). show_or x o w s.word) (sym r ∙ ap (λ (x : Written). x.answer) t) ∙ sym (ap (λ (y : Shown). y.result) p);
          output = ap (λ (x : Written). x.output) t ∙ sym (ap (λ (y : Shown). y.output) p);
        }
