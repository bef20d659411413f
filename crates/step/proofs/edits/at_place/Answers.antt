-- `step::edits::at_place` meets its contract: no place is no edit, and a place that was found lies in the word.
use Rattle.step.proofs.Aimings.{found_none, found_there, found_at}
use Rattle.step.proofs.edits.at_place.Goals as goal

pub returns-in_default : goal.returns-in_default
returns-in_default c = found_none c.args.letters.now c.args.kind c.in_default.is

pub at-requires : goal.at-requires
at-requires c = found_there c.args.letters.now c.args.kind c.requires c.in-Some.is

pub returns : goal.returns
returns c = found_at c.args.letters.now c.args.kind c.in-Some.is c.at.ensures
