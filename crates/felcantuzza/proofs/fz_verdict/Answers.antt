-- `felcantuzza::fz_verdict` meets its contract: it returns what `verdict` says.
use Rattle.felcantuzza.specs.Calls as Calls
use Rattle.felcantuzza.specs.Calls.{only_one, in_one, placed}
use Rattle.felcantuzza.proofs.CallAnswers.{hands}
use Rattle.felcantuzza.proofs.fz_verdict.Goals as goal

pub returns : goal.returns
returns c = hands only_one (Calls.verdict c.args.lent.now) c.verdict.ensures c.returned.ensures.0 c.returned.ensures.1
