-- `lines::Line::letters` meets its contract. The loop's invariant: the letters that are left, with a comma behind each, make the line what all of them make it.
use Rattle.lines.proofs.KeyPlaces.{Left}
use Rattle.lines.proofs.line.Line.letters.Given as goal

abbrev pub invariant-loop-appended : goal.invariant-loop-appended
invariant-loop-appended l = Left l.initial.self l.self l.initial.appended-iterator.a.rest.now l.initial.appended-iterator.b.rest.now l.appended-iterator.a.rest.now l.appended-iterator.b.rest.now
