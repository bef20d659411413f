-- `stream::feed` meets its contract. The loop's invariant: what is done so far and what the rest does are together what the whole block does.
use Prim.Native.Nat.{◌≤◌, max}
use lib.ListN.{length}
use Rattle.stream.proofs.Turns.{SoFar}
use Rattle.stream.proofs.feed.Given as goal

abbrev pub invariant-loop-i : goal.invariant-loop-i
invariant-loop-i l = SoFar l.initial.state l.block l.from l.initial.out l.out l.state l.at l.i × (l.i ≤ max l.from (length l.block))
