-- `felcantuzza::typed_and_shown` meets its contract: into a short output by press's function over bytes; else typed where the bytes lie and shown, or refused.
use Rattle.std.specs.Prelude.{Err}
use Rattle.std.specs.Option.{IsSome}
use Rattle.std.proofs.lemmas.Result.{err_from_is_err_and}
use mathlib.Core.Path.{refl, sym, ap, subst, ◌∙◌}
use lib.Seq.{length-take-le}
use Rattle.layout.specs.Places.{as_record}
use Rattle.step.proofs.StepsAt.{as_it_was, now_written, now_held}
use Rattle.press.specs.StepAndShow.{ShownAt}
use Rattle.press.proofs.PressesAt.{refused_at, pressed_so}
use Rattle.press.proofs.Rooms.{within, with_room}
use Rattle.felcantuzza.proofs.CallAnswers.{pressed, pressed_bytes, pressed_output}
use Rattle.felcantuzza.proofs.typed_and_shown.Goals as goal

pub returns-then-out-lt-TEXT : goal.returns-then-out-lt-TEXT
returns-then-out-lt-TEXT c =
    let lent = c.args.lent.now in
    let key = c.args.key in
    let out = c.args.out.now in
    (pressed lent key out c.press_at.ensures.0, c.press_at.ensures.1 ∙ pressed_bytes lent key out, c.press_at.ensures.2 ∙ pressed_output lent key out)

pub returns-in_err-outcome : goal.returns-in_err-outcome
returns-in_err-outcome c =
    let lent = c.args.lent.now in
    let key = c.args.key in
    let out = c.args.out.now in
    let d = sym c.step_at.ensures.0 ∙ c.in_err-outcome.was in
    let e = sym (refused_at lent key out _ d) in
    let p = err_from_is_err_and c.from_residual.result c.from_residual.ensures.1 in (
      pressed lent key out (p.1 ∙ ap Err p.2 ∙ ap (λ (x : ShownAt). x.answer) e),
      c.step_at.ensures.1 ∙ as_it_was lent key _ d ∙ ap (λ (x : ShownAt). x.bytes) e ∙ pressed_bytes lent key out,
      ap (λ (x : ShownAt). x.output) e ∙ pressed_output lent key out,
    )

pub unwrap-w-requires : goal.unwrap-w-requires
unwrap-w-requires c =
    let d = sym c.step_at.ensures.0 ∙ c.in_ok-outcome.was in
    subst IsSome (sym (c.read.ensures ∙ ap as_record c.step_at.ensures.1 ∙ now_held c.args.lent.now c.args.key d)) refl

pub slice_bounds-letters-end : goal.slice_bounds-letters-end
slice_bounds-letters-end c =
    let args = c.args in
    within args.lent.now args.key args.out.now (sym c.step_at.ensures.0 ∙ c.in_ok-outcome.was) c.step_at.ensures.1 c.read.ensures c.unwrap-w.ensures c.letters_of-letters.ensures

pub slice_bounds-in_room-end : goal.slice_bounds-in_room-end
slice_bounds-in_room-end c =
    let args = c.args in
    sym (length-take-le c.unwrap-w.result.count c.letters_of-letters.result (within args.lent.now args.key args.out.now (sym c.step_at.ensures.0 ∙ c.in_ok-outcome.was) c.step_at.ensures.1 c.read.ensures c.unwrap-w.ensures c.letters_of-letters.ensures))

pub returns : goal.returns
returns c =
    let lent = c.args.lent.now in
    let key = c.args.key in
    let out = c.args.out.now in
    let d = sym c.step_at.ensures.0 ∙ c.in_ok-outcome.was in
    let both = with_room lent key out d c.step_at.ensures.1 c.read.ensures c.unwrap-w.ensures c.letters_of-letters.ensures c.if-out-lt-TEXT.false c.in_room-bytes.ensures.0 c.in_room-bytes.ensures.1 in
    let e = sym (pressed_so lent key out d both.0 both.1) in (
      pressed lent key out (ap (λ (x : ShownAt). x.answer) e),
      c.step_at.ensures.1 ∙ now_written lent key d ∙ ap (λ (x : ShownAt). x.bytes) e ∙ pressed_bytes lent key out,
      ap (λ (x : ShownAt). x.output) e ∙ pressed_output lent key out,
    )
