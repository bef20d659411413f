-- `groups::written` meets its contract. The loop's invariant says how far it has come; the measure is what is left of the number.
use Rattle.groups.proofs.Writing.{SoFar}
use Rattle.groups.proofs.written.Given as goal

abbrev pub invariant-loop-left : goal.invariant-loop-left
invariant-loop-left l = SoFar l.n l.i l.left l.bytes

abbrev pub decreases-loop-left : goal.decreases-loop-left
decreases-loop-left l = l.left
