-- `targets::pair` meets its contract. The loop's invariant: from here on the same is found as from the start.
use mathlib.Core.Path.{◌≡◌}
use mathlib.Core.Bool.{false}
use mathlib.Core.List.{map}
use Rattle.rules.specs.TheWord.{letter}
use Rattle.targets.specs.Places.{pair_place}
use Rattle.targets.proofs.Turns.{from}
use Rattle.targets.proofs.pair.Given as goal

abbrev pub invariant-loop-i : goal.invariant-loop-i
invariant-loop-i l =
    (l.i-iterator.iter.parts.size ≡ 2) × (from l.i-iterator.count (pair_place l.after_q (map letter l.i-iterator.iter.parts.rest.now)) ≡ pair_place false (map letter l.letters))
