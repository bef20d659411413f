-- `show::fill` meets its contract. The loop's invariant: what is written and what is still to come are together the whole text.
use Rattle.std.specs.Prelude.{Some}
use Rattle.show.proofs.Fills.{SoFar}
use Rattle.show.proofs.fill.Given as goal

abbrev pub invariant-loop-i : goal.invariant-loop-i
invariant-loop-i l = SoFar (Some l.toned) l.tone l.letters l.initial.text l.i l.at l.text
