-- `layout::put_pairs` meets its contract. The loop's invariant: the pairs of the first letters are written.
use Rattle.layout.proofs.Pairs.{WrittenSoFar}
use Rattle.layout.proofs.put_pairs.Given as goal

abbrev pub invariant-loop-i : goal.invariant-loop-i
invariant-loop-i l = WrittenSoFar l.letters l.i l.out
