-- `recording::write` meets its contract: each answer is that of its test.
use mathlib.Core.Path.{sym, ap, ◌∙◌}
use mathlib.Core.Bool.{not}
use native.Mathlib.Omega.{arith}
use Rattle.std.specs.Prelude.{Err}
use Rattle.std.proofs.lemmas.Result.{err_from_is_err_and}
use Rattle.recording.specs.Recordings.{none_yet}
use Rattle.recording.proofs.Faults.{all_short, no_mode, one_faulty, too_short, all_put}
use Rattle.recording.proofs.write.Goals as goal

pub returns-then-not-is_mode : goal.returns-then-not-is_mode
returns-then-not-is_mode c =
    let e = no_mode c.args.mode c.args.presses.now c.args.out.now (ap not (sym c.is_mode.ensures ∙ c.if-not-is_mode.true)) in
    (c.refuse.ensures ∙ e.0, e.1)

pub returns-in_err-first_fault : goal.returns-in_err-first_fault
returns-in_err-first_fault c =
    let p = err_from_is_err_and c.from_residual.result c.from_residual.ensures.1 in
    let f = one_faulty c.args.mode c.args.presses.now c.args.out.now (ap not (sym c.is_mode.ensures ∙ c.if-not-is_mode.false)) c.first_fault.ensures c.in_err-first_fault.was in
    (p.1 ∙ ap Err p.2 ∙ f.0, f.1)

pub bytes_needed-needed-requires : goal.bytes_needed-needed-requires
bytes_needed-needed-requires c =
    all_short (none_yet c.args.mode) 0 c.args.presses.now (sym c.first_fault.ensures ∙ c.in_ok-first_fault.was)

pub returns-then-out-needed : goal.returns-then-out-needed
returns-then-out-needed c =
    let e = too_short c.args.mode c.args.presses.now c.args.out.now (ap not (sym c.is_mode.ensures ∙ c.if-not-is_mode.false)) c.first_fault.ensures c.in_ok-first_fault.was c.bytes_needed-needed.ensures c.if-out-needed.true in
    (c.refuse-then-out-needed.ensures ∙ e.0, e.1)

pub put_drill-requires : goal.put_drill-requires
put_drill-requires c =
    (all_short (none_yet c.args.mode) 0 c.args.presses.now (sym c.first_fault.ensures ∙ c.in_ok-first_fault.was), omega arith)

pub returns : goal.returns
returns c =
    all_put c.args.mode c.args.presses.now c.args.out.now (ap not (sym c.is_mode.ensures ∙ c.if-not-is_mode.false)) c.first_fault.ensures c.in_ok-first_fault.was c.put_drill.ensures.0 c.put_drill.ensures.1 (omega (arith, c.if-out-needed.false))
