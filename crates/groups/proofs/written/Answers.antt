-- `groups::written` meets its contract. The loop's invariant says how far it has come; the measure is what is left of the number.
use native.Mathlib.Omega.{arith}
use Rattle.groups.proofs.Writing.{begun, few, one_more, all_written}
use Rattle.groups.proofs.written.Goals as goal

pub loop-left-init : goal.loop-left-init
loop-left-init c = begun c.args.n (omega arith)

pub bounds-bytes-i : goal.bounds-bytes-i
bounds-bytes-i c = few c.loop-left.invariant

pub overflow_add-i : goal.overflow_add-i
overflow_add-i c = omega (arith, few c.loop-left.invariant)

pub loop-left-preserved : goal.loop-left-preserved
loop-left-preserved c = one_more c.loop-left.invariant c.loop-left-test.true

pub bounds-bytes-i-2 : goal.bounds-bytes-i-2
bounds-bytes-i-2 c = few c.loop-left.invariant

pub overflow_add-result : goal.overflow_add-result
overflow_add-result c = omega (arith, few c.loop-left.invariant)

pub returns : goal.returns
returns c = all_written c.loop-left.invariant c.loop-left-test.false
