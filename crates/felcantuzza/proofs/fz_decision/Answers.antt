-- `felcantuzza::fz_decision` meets its contract: it returns what `decision` says.
use Rattle.felcantuzza.specs.Calls as Calls
use Rattle.felcantuzza.specs.Calls.{only_one, in_one, placed}
use Rattle.felcantuzza.proofs.CallAnswers.{hands}
use Rattle.felcantuzza.proofs.fz_decision.Goals as goal

pub returns : goal.returns
returns c = hands only_one (Calls.decision c.args.lent.now) c.decision.ensures c.returned.ensures.0 c.returned.ensures.1
