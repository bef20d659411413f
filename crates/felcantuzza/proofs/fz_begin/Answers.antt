-- `felcantuzza::fz_begin` meets its contract: it returns what `begun` says.
use Rattle.felcantuzza.specs.Recordings as Recordings
use Rattle.felcantuzza.specs.Calls.{only_one}
use Rattle.felcantuzza.proofs.CallAnswers.{hands}
use Rattle.felcantuzza.proofs.fz_begin.Goals as goal

pub returns : goal.returns
returns c =
    let t = hands only_one (Recordings.begin c.args.recording.now) c.begun.ensures.0 c.returned.ensures.0 c.returned.ensures.1 in
    (t.0, t.1, c.begun.ensures.1)
