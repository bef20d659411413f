-- `speller::KeyList::standard` meets its contract. The loop's invariant: the keys put so far and those of the letters from here on are all the letters' keys.
use Rattle.speller.proofs.KeyLists.{Putting}
use Rattle.speller.proofs.key_list.KeyList.standard.Given as goal

abbrev pub invariant-loop-i : goal.invariant-loop-i
invariant-loop-i l = Putting l.mode l.letters l.i l.self
