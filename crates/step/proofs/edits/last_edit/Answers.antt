-- `step::edits::last_edit` meets its contract: the place that is found lies in the word.
use Rattle.targets.specs.Places.{wanted}
use Rattle.step.proofs.Aimings.{as_found, last_at, last_there}
use Rattle.step.proofs.edits.last_edit.Goals as goal

pub at_place-requires : goal.at_place-requires
at_place-requires c = last_there c.args.letters.now (wanted c.args.key) c.args.kind c.last_wanted-place.ensures c.requires.0 c.requires.1

pub returns : goal.returns
returns c = as_found c.args.kind (last_at c.args.letters.now (wanted c.args.key) c.args.kind c.last_wanted-place.ensures) c.at_place.ensures
