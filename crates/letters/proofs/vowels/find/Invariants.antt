-- `letters::vowels::find` meets its contract. The loops' invariant: what is found is what is found from this entry on, in the definition's table, which the code's is row after row.
use Rattle.std.proofs.Common.{◌+◌, ◌*◌}
use Rattle.letters.proofs.Finds.{found_from}
use Rattle.letters.proofs.vowels.find.Given as goal

abbrev pub invariant-loop-row : goal.invariant-loop-row
invariant-loop-row l = found_from l.point (l.row * 6)

abbrev pub invariant-loop-tone : goal.invariant-loop-tone
invariant-loop-tone l = found_from l.point (l.row * 6 + l.tone)
