-- `felcantuzza::fz_type` meets its contract: it returns what `typed` says.
use Rattle.felcantuzza.specs.Calls as Calls
use Rattle.felcantuzza.specs.Calls.{only_one, in_one, placed}
use Rattle.felcantuzza.proofs.CallAnswers.{hands}
use Rattle.felcantuzza.proofs.fz_type.Goals as goal

pub returns : goal.returns
returns c =
    let t = hands in_one (Calls.type c.args.lent.now c.args.key) c.typed.ensures.0 c.returned.ensures.0 c.returned.ensures.1 in
    (t.0, t.1, c.typed.ensures.1)
