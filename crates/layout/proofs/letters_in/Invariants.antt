-- `layout::letters_in` meets its contract. The loop's invariant: the first letters are the first numbers of the pairs.
use Rattle.layout.proofs.Pairs.{ReadSoFar}
use Rattle.layout.proofs.letters_in.Given as goal

abbrev pub invariant-loop-i : goal.invariant-loop-i
invariant-loop-i l = ReadSoFar l.pairs l.i l.letters
