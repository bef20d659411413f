-- `felcantuzza::fz_place` meets its contract: it returns what `place` says.
use Rattle.felcantuzza.specs.Calls as Calls
use Rattle.felcantuzza.specs.Calls.{only_one, in_one, placed}
use Rattle.felcantuzza.proofs.CallAnswers.{hands}
use Rattle.felcantuzza.proofs.fz_place.Goals as goal

pub returns : goal.returns
returns c = hands placed (Calls.place c.args.lent.now) c.place.ensures c.returned.ensures.0 c.returned.ensures.1
