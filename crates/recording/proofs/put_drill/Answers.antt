-- `recording::put_drill` meets its contract. The loop's invariant: the presses from here on, put where the loop stands, give what all of them give, put where it began.
use mathlib.Core.Path.{◌∙◌}
use native.Mathlib.Omega.{arith}
use Rattle.recording.proofs.Needed.{turn_long, turn_put}
use Rattle.recording.proofs.put_drill.Goals as goal

pub loop-n-preserved : goal.loop-n-preserved
loop-n-preserved c =
    let s = c.args.presses.now in
    let long = turn_long s c.loop-n.n-index c.loop-n-test.true in
    let time = rw c.new-given.ensures.0 at c.put_number-at-in-loop-n.ensures in
    let key = rw c.new-given.ensures.1 at c.put_number-at-in-loop-n-2.ensures in (
      omega (arith, long, time.0, key.0),
      omega arith,
      omega arith,
      turn_put s c.loop-n.n-index c.loop-n.out c.put_number-at-in-loop-n.new.out c.put_number-at-in-loop-n-2.new.out c.loop-n.at c.put_number-at-in-loop-n.result c.put_number-at-in-loop-n-2.result
          c.loop-n-test.true (omega arith) (omega arith) time key ∙
          c.loop-n.invariant.3,
    )
