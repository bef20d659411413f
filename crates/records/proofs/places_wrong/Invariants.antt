-- `records::places_wrong` meets its contract. The loop's invariant: what is asked about and what is left are together all places.
use mathlib.Core.Path.{◌≡◌}
use mathlib.Core.Bool.{◌||◌}
use lib.ListN.{length}
use Rattle.records.proofs.PlacesAsked.{wrong_from}
use Rattle.records.proofs.places_wrong.Given as goal

abbrev pub invariant-loop-i : goal.invariant-loop-i
invariant-loop-i l =
    let by = l.i-iterator.iter.a.rest.now in
    let shaped = l.i-iterator.iter.b.rest.now in
    ((l.wrong || wrong_from l.w.typed l.w.count l.i-iterator.count by shaped) ≡ wrong_from l.w.typed l.w.count 0 l.w.appended_by l.w.shaped_by) × (length by ≡ length shaped)
