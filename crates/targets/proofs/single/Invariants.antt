-- `targets::single` meets its contract. The loop's invariant: from here on the same is found as from the start.
use mathlib.Core.Path.{◌≡◌}
use mathlib.Core.List.{map}
use mathlib.Core.Bool.{false}
use lib.ListN.{drop}
use Rattle.rules.specs.TheWord.{letter}
use Rattle.targets.specs.Places.{single_place}
use Rattle.targets.proofs.Turns.{from}
use Rattle.targets.proofs.single.Given as goal

abbrev pub invariant-loop-i : goal.invariant-loop-i
invariant-loop-i l = from l.i (single_place l.after_q (map letter (drop l.i l.letters))) ≡ single_place false (map letter l.letters)
