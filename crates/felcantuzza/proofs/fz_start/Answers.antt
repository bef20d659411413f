-- `felcantuzza::fz_start` meets its contract: it returns what `started` says.
use Rattle.felcantuzza.specs.Calls as Calls
use Rattle.felcantuzza.specs.Calls.{only_one, in_one, placed}
use Rattle.felcantuzza.proofs.CallAnswers.{hands}
use Rattle.felcantuzza.proofs.fz_start.Goals as goal

pub returns : goal.returns
returns c =
    let t = hands only_one (Calls.start c.args.mode c.args.lent.now) c.started.ensures.0 c.returned.ensures.0 c.returned.ensures.1 in
    (t.0, t.1, c.started.ensures.1)
