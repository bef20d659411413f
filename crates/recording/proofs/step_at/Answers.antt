-- `recording::step_at` meets its contract: each way out is what the step meets.
use Rattle.std.specs.Prelude.{Some, Ok}
use mathlib.Core.Path.{sym, ap, ◌∙◌}
use Prim.Native.Nat.{◌+◌}
use borrow.Author.Rules.{rules}
use Rattle.recording.specs.Recordings.{press}
use Rattle.recording.specs.declared.Progress.{Progress}
use Rattle.recording.specs.declared.Stepped.{Stepped}
use Rattle.recording.proofs.Presses.{is_fine, is_byte, fine_anywhere}
use Rattle.recording.proofs.Steps.{at_end, no_time, ends_within, no_key, faulty_press, fine_press}
use Rattle.recording.proofs.step_at.Goals as goal

pub returns-then-recording-at : goal.returns-then-recording-at
returns-then-recording-at c = let a = c.args in c.staying.ensures ∙ at_end a.recording.now a.at a.progress c.if-recording-at.true

pub returns-in_default : goal.returns-in_default
returns-in_default c =
    let a = c.args in
    c.cut_short.ensures ∙ no_time a.recording.now a.at a.progress c.if-recording-at.false (sym c.in_default.is ∙ c.number_at.ensures)

pub overflow_add-key_at : goal.overflow_add-key_at
overflow_add-key_at c =
    let a = c.args in
    let end = ends_within a.recording.now a.at c.in-Some.time (sym c.in-Some.is ∙ c.number_at.ensures) in
    search rules

pub returns-in_default-number_at : goal.returns-in_default-number_at
returns-in_default-number_at c =
    let a = c.args in
    c.cut_short-in_default-number_at.ensures ∙ no_key a.recording.now a.at a.progress c.in-Some.time c.if-recording-at.false (sym c.in-Some.is ∙ c.number_at.ensures) (sym c.in_default-number_at.is ∙ c.number_at-2.ensures)

pub returns-in-Err : goal.returns-in-Err
returns-in-Err c =
    let a = c.args in
    c.staying-in-Err.ensures ∙ faulty_press a.recording.now a.at a.progress c.in-Some.time c.if-recording-at.false (sym c.in-Some.is ∙ c.number_at.ensures) c.in-Some-number_at.key (sym c.in-Some-number_at.is ∙ c.number_at-2.ensures) _ (sym c.check.ensures ∙ c.in-Err.is)

pub overflow_cast-x : goal.overflow_cast-x
overflow_cast-x c =
    let a = c.args in
    record { fits = is_byte a.progress c.in-Some-number_at.key.value (is_fine a.progress (press c.in-Some.time.value c.in-Some-number_at.key.value) _ _ (sym c.check.ensures ∙ c.in_default-check.is)).allowed }

pub overflow_add-result : goal.overflow_add-result
overflow_add-result c =
    let a = c.args in
    let end = ends_within a.recording.now (a.at + c.in-Some.time.groups) c.in-Some-number_at.key (sym c.in-Some-number_at.is ∙ c.number_at-2.ensures) in
    search rules

pub onward-requires : goal.onward-requires
onward-requires c =
    let a = c.args in
    fine_anywhere a.progress (press c.in-Some.time.value c.in-Some-number_at.key.value) _ _ 0 0 (sym c.check.ensures ∙ c.in_default-check.is)

pub returns : goal.returns
returns c =
    let a = c.args in
    ap (λ (p : Progress). let t : Stepped = record { press = Ok (Some (press c.in-Some.time.value c.in-Some-number_at.key.value)); at = a.at + c.in-Some.time.groups + c.in-Some-number_at.key.groups; progress = p } in t) c.onward.ensures ∙
    fine_press a.recording.now a.at a.progress c.in-Some.time c.if-recording-at.false (sym c.in-Some.is ∙ c.number_at.ensures) c.in-Some-number_at.key (sym c.in-Some-number_at.is ∙ c.number_at-2.ensures) (sym c.check.ensures ∙ c.in_default-check.is)
