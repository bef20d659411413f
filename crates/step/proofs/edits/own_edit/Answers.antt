-- `step::edits::own_edit` meets its contract: the place that is found lies in the word.
use lib.Dec.{lit<}
use Rattle.rules.specs.Letters.{circumflex}
use Rattle.rules.specs.KeyRoles.{own}
use Rattle.step.proofs.Aimings.{as_found, last_at, last_there}
use Rattle.step.proofs.edits.own_edit.Goals as goal

pub at_place-requires : goal.at_place-requires
at_place-requires c = last_there c.args.letters.now (own c.args.own) circumflex c.last_own-place.ensures c.requires (lit< tt)

pub returns : goal.returns
returns c = as_found circumflex (last_at c.args.letters.now (own c.args.own) circumflex c.last_own-place.ensures) c.at_place.ensures
