-- `recorder::write` is safe: the recording that was written lies within the output.
use Rattle.std.proofs.Common.{arith, length-take}
use Rattle.recording.proofs.Within.{drill_in_front}
use Rattle.recorder.proofs.write.Goals as goal

pub slice_bounds-out-end : goal.slice_bounds-out-end
slice_bounds-out-end c =
    let wrote = c.write in
    drill_in_front _ _ wrote.result _ c.in-Ok.is _ _ wrote.ensures.0 wrote.ensures.1

pub slice_bounds-write_all-end : goal.slice_bounds-write_all-end
slice_bounds-write_all-end c =
    let wrote = c.write in
    omega (arith, drill_in_front _ _ wrote.result _ c.in-Ok.is _ _ wrote.ensures.0 wrote.ensures.1, length-take c.in-Ok.written wrote.new.out)
