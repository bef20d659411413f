-- `felcantuzza::fz_commit` meets its contract: it returns what `ruling` says.
use Rattle.felcantuzza.specs.Calls as Calls
use Rattle.felcantuzza.specs.Calls.{only_one, in_one, placed}
use Rattle.felcantuzza.proofs.CallAnswers.{hands}
use Rattle.felcantuzza.proofs.fz_commit.Goals as goal

pub returns : goal.returns
returns c = hands only_one (Calls.commit c.args.mode c.args.keys.now c.args.text.now) c.ruling.ensures c.returned.ensures.0 c.returned.ensures.1
