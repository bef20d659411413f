-- `replay::pass` meets its contract. The loop's invariant says how far the pass has come; the measure is what is left of the recording.
use mathlib.Core.Path.{◌≡◌, refl, sym, ap, subst, ◌∙◌}
use borrow.Author.Rules.{rules}
use native.Mathlib.Omega.{arith}
use lib.ListN.{length, take, length-take}
use Rattle.recording.proofs.Presses.{has_room}
use Rattle.recording.proofs.Readings.{met_press, met_refusal, met_end}
use Rattle.replay.specs.Passes.{FitsKeys, some_keys}
use Rattle.replay.proofs.Totals.{output_long}
use Rattle.replay.proofs.Passing.{fits, one_more, started, broken_off, all_passed}
use Rattle.std.specs.Prelude.{Option, Ok, Err}
use Rattle.std.proofs.lemmas.Result.{err_from_is_err_and}
use Rattle.recording.specs.declared.KeyPress.{KeyPress}
use Rattle.replay.proofs.pass.Goals as goal

pub loop-x-init : goal.loop-x-init
loop-x-init c = started c.args.recording.now c.args.out.now c.args.begun c.requires (search rules)

pub press-requires : goal.press-requires
press-requires c =
    let g = c.loop-x.invariant in
    let m = met_press c.args.recording.now c.loop-x.at c.loop-x.progress c.step_at-step.ensures c.in-Some.x (subst (λ (o : Option KeyPress). c.step_at-step.result.press ≡ Ok o) c.in-Some.is c.in_ok-x.was) in
    (g.mode, g.few, g.allowed, fits c.well_formed.0.1 g, has_room c.loop-x.progress c.in-Some.x.key m.fine.room)

pub loop-x-smaller : goal.loop-x-smaller
loop-x-smaller c =
    let m = met_press c.args.recording.now c.loop-x.at c.loop-x.progress c.step_at-step.ensures c.in-Some.x (subst (λ (o : Option KeyPress). c.step_at-step.result.press ≡ Ok o) c.in-Some.is c.in_ok-x.was) in
    omega (arith, m.on, m.within)

pub loop-x-preserved : goal.loop-x-preserved
loop-x-preserved c =
    let m = met_press c.args.recording.now c.loop-x.at c.loop-x.progress c.step_at-step.ensures c.in-Some.x (subst (λ (o : Option KeyPress). c.step_at-step.result.press ≡ Ok o) c.in-Some.is c.in_ok-x.was) in
    one_more c.loop-x.invariant c.in-Some.x c.step_at-step.result.at m.fine m.on m.within m.read c.press.ensures.0 c.press.ensures.1 c.press.ensures.2 m.moved

pub shape_of-out-in_err-x : goal.shape_of-out-in_err-x
shape_of-out-in_err-x c = c.loop-x.invariant.long

pub returns-in_err-x : goal.returns-in_err-x
returns-in_err-x c =
    let p = err_from_is_err_and c.from_residual.result c.from_residual.ensures.1 in
    let b = broken_off c.args.recording.now c.args.out.now c.args.begun c.requires c.loop-x.invariant (met_refusal c.args.recording.now c.loop-x.at c.loop-x.progress c.step_at-step.ensures _ c.in_err-x.was) in
    (p.1 ∙ ap Err p.2 ∙ b.0, b.1)

pub add_last-requires : goal.add_last-requires
add_last-requires c =
    let g = c.loop-x.invariant in
    let n = c.loop-x.progress.in_word in
    let long : length (take n c.loop-x.keys) ≡ n = simp length-take (omega (arith, g.array, g.few)) in
    (g.mode, omega (arith, long, g.few), g.allowed, subst (FitsKeys c.loop-x.found) (sym long) (fits c.well_formed.0.1 g))

pub shape_of-out : goal.shape_of-out
shape_of-out c =
    let ks = take c.loop-x.progress.in_word c.loop-x.keys in
    ap length c.add_last.ensures.1 ∙ output_long (some_keys ks) c.loop-x.progress.mode ks c.loop-x.found c.loop-x.out ∙ c.loop-x.invariant.long

pub returns : goal.returns
returns c =
    all_passed c.args.recording.now c.args.out.now c.args.begun c.requires c.loop-x.invariant (met_end c.args.recording.now c.loop-x.at c.loop-x.progress c.step_at-step.ensures (subst (λ (o : Option KeyPress). c.step_at-step.result.press ≡ Ok o) c.in_default.is c.in_ok-x.was))
    refl c.add_last.ensures.0 c.add_last.ensures.1 refl
