-- `replay::pass` meets its contract. The loop's invariant says how far the pass has come; the measure is what is left of the recording.
use Prim.Native.Nat.{◌-◌}
use lib.ListN.{length}
use Rattle.replay.proofs.Passing.{Going}
use Rattle.replay.proofs.pass.Given as goal

abbrev pub invariant-loop-x : goal.invariant-loop-x
invariant-loop-x l = Going l.recording l.initial.out l.initial.at l.initial.progress l.out l.at l.progress l.keys l.found

abbrev pub decreases-loop-x : goal.decreases-loop-x
decreases-loop-x l = length l.recording - l.at
