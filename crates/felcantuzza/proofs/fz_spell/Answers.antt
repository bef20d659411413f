-- `felcantuzza::fz_spell` meets its contract: it returns what `speller::spell` says.
use Rattle.felcantuzza.specs.Calls as Calls
use Rattle.felcantuzza.specs.Calls.{only_one, in_one, placed}
use Rattle.felcantuzza.proofs.CallAnswers.{hands, spelled_number}
use Rattle.felcantuzza.proofs.fz_spell.Goals as goal

pub returns : goal.returns
returns c =
    let args = c.args in
    let t = hands only_one (Calls.spell args.mode args.text.now args.out.now) (spelled_number args.mode args.text.now args.out.now c.spell.ensures.0) c.returned.ensures.0 c.returned.ensures.1 in
    (t.0, t.1, c.spell.ensures.1)
