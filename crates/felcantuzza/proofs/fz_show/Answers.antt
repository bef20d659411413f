-- `felcantuzza::fz_show` meets its contract: it returns what `shown` says.
use Rattle.felcantuzza.specs.Calls as Calls
use Rattle.felcantuzza.specs.Calls.{only_one, in_one, placed}
use Rattle.felcantuzza.proofs.CallAnswers.{hands}
use Rattle.felcantuzza.proofs.fz_show.Goals as goal

pub returns : goal.returns
returns c =
    let t = hands only_one (Calls.show c.args.lent.now c.args.out.now) c.shown.ensures.0 c.returned.ensures.0 c.returned.ensures.1 in
    (t.0, t.1, c.shown.ensures.1)
