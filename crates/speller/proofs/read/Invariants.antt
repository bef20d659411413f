-- `speller::read` meets its contract. The loop's invariant: the letters read so far in front of what is still to be read is the whole reading.
use Prim.Native.Nat.{◌-◌}
use lib.ListN.{length}
use Rattle.speller.proofs.Turns.{Going}
use Rattle.speller.proofs.read.Given as goal

abbrev pub invariant-loop-r : goal.invariant-loop-r
invariant-loop-r l = Going l.text l.letters l.r

abbrev pub decreases-loop-r : goal.decreases-loop-r
decreases-loop-r l = length l.text - l.r.at
