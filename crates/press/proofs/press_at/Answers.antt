-- `press::press_at` meets its contract: no record, refused, or typed in the copy and shown.
use Rattle.std.specs.Prelude.{Err}
use Rattle.std.specs.Option.{IsSome}
use Rattle.std.proofs.lemmas.Result.{err_from_is_err_and}
use mathlib.Core.Path.{refl, sym, ap, subst, ◌∙◌}
use mathlib.Core.List.{List}
use Prim.Native.Nat.{ℕ}
use lib.Seq.{length-take-le}
use Rattle.layout.specs.Places.{as_record}
use Rattle.step.specs.InPlace.{step_at}
use Rattle.step.proofs.StepsAt.{now_written, now_held}
use Rattle.press.specs.StepAndShow.{ShownAt}
use Rattle.press.proofs.PressesAt.{not_long, refused_at, pressed_so}
use Rattle.press.proofs.Rooms.{within, in_any}
use Rattle.press.proofs.press_at.Goals as goal

pub returns-then-lent-ne-LENGTH : goal.returns-then-lent-ne-LENGTH
returns-then-lent-ne-LENGTH c =
    let args = c.args in
    let e = sym (not_long args.lent.now args.key args.out.now c.if-lent-ne-LENGTH.true) in
    (c.refuse.ensures ∙ ap (λ (x : ShownAt). x.answer) e, ap (λ (x : ShownAt). x.bytes) e, ap (λ (x : ShownAt). x.output) e)

pub returns-in_err-outcome : goal.returns-in_err-outcome
returns-in_err-outcome c =
    let args = c.args in
    let e = sym (refused_at args.lent.now args.key args.out.now _ (sym (c.step_at.ensures.0 ∙ ap (λ (l : List ℕ). (step_at l args.key).answer) c.copy_from_slice.ensures.after) ∙ c.in_err-outcome.was)) in
    let p = err_from_is_err_and c.from_residual.result c.from_residual.ensures.1 in
    (p.1 ∙ ap Err p.2 ∙ ap (λ (x : ShownAt). x.answer) e, ap (λ (x : ShownAt). x.bytes) e, ap (λ (x : ShownAt). x.output) e)

pub unwrap-w-requires : goal.unwrap-w-requires
unwrap-w-requires c =
    let args = c.args in
    let lent = args.lent.now in
    let d = sym (c.step_at.ensures.0 ∙ ap (λ (l : List ℕ). (step_at l args.key).answer) c.copy_from_slice.ensures.after) ∙ c.in_ok-outcome.was in
    let now = c.step_at.ensures.1 ∙ ap (λ (l : List ℕ). (step_at l args.key).bytes) c.copy_from_slice.ensures.after in
    subst IsSome (sym (c.read.ensures ∙ ap as_record now ∙ now_held lent args.key d)) refl

pub slice_bounds-letters-end : goal.slice_bounds-letters-end
slice_bounds-letters-end c =
    let args = c.args in
    let lent = args.lent.now in
    let d = sym (c.step_at.ensures.0 ∙ ap (λ (l : List ℕ). (step_at l args.key).answer) c.copy_from_slice.ensures.after) ∙ c.in_ok-outcome.was in
    let now = c.step_at.ensures.1 ∙ ap (λ (l : List ℕ). (step_at l args.key).bytes) c.copy_from_slice.ensures.after in
    within lent args.key args.out.now d now c.read.ensures c.unwrap-w.ensures c.letters_of-letters.ensures

pub slice_bounds-text-end : goal.slice_bounds-text-end
slice_bounds-text-end c =
    let args = c.args in
    let lent = args.lent.now in
    let d = sym (c.step_at.ensures.0 ∙ ap (λ (l : List ℕ). (step_at l args.key).answer) c.copy_from_slice.ensures.after) ∙ c.in_ok-outcome.was in
    let now = c.step_at.ensures.1 ∙ ap (λ (l : List ℕ). (step_at l args.key).bytes) c.copy_from_slice.ensures.after in
    sym (length-take-le c.unwrap-w.result.count c.letters_of-letters.result (within lent args.key args.out.now d now c.read.ensures c.unwrap-w.ensures c.letters_of-letters.ensures))

pub returns-in_err-shown : goal.returns-in_err-shown
returns-in_err-shown c =
    let args = c.args in
    let lent = args.lent.now in
    let d = sym (c.step_at.ensures.0 ∙ ap (λ (l : List ℕ). (step_at l args.key).answer) c.copy_from_slice.ensures.after) ∙ c.in_ok-outcome.was in
    let now = c.step_at.ensures.1 ∙ ap (λ (l : List ℕ). (step_at l args.key).bytes) c.copy_from_slice.ensures.after in
    let both = in_any lent args.key args.out.now d now c.read.ensures c.unwrap-w.ensures c.letters_of-letters.ensures (sym c.in_err-shown.was ∙ c.text.ensures.0) c.text.ensures.1 in
    let e = sym (pressed_so lent args.key args.out.now d both.0 both.1) in
    let p = err_from_is_err_and c.from_residual-in_err-shown.result c.from_residual-in_err-shown.ensures.1 in
    (p.1 ∙ ap Err p.2 ∙ ap (λ (x : ShownAt). x.answer) e, ap (λ (x : ShownAt). x.bytes) e, ap (λ (x : ShownAt). x.output) e)

pub returns : goal.returns
returns c =
    let args = c.args in
    let lent = args.lent.now in
    let d = sym (c.step_at.ensures.0 ∙ ap (λ (l : List ℕ). (step_at l args.key).answer) c.copy_from_slice.ensures.after) ∙ c.in_ok-outcome.was in
    let now = c.step_at.ensures.1 ∙ ap (λ (l : List ℕ). (step_at l args.key).bytes) c.copy_from_slice.ensures.after in
    let both = in_any lent args.key args.out.now d now c.read.ensures c.unwrap-w.ensures c.letters_of-letters.ensures (sym c.in_ok-shown.was ∙ c.text.ensures.0) c.text.ensures.1 in
    let e = sym (pressed_so lent args.key args.out.now d both.0 both.1) in
    (ap (λ (x : ShownAt). x.answer) e, c.copy_from_slice-2.ensures.after ∙ now ∙ now_written lent args.key d ∙ ap (λ (x : ShownAt). x.bytes) e, ap (λ (x : ShownAt). x.output) e)
