-- `felcantuzza::fz_replay` meets its contract: it returns what `replayed` says.
use Rattle.felcantuzza.specs.Recordings as Recordings
use Rattle.felcantuzza.specs.Calls.{only_one}
use Rattle.felcantuzza.proofs.CallAnswers.{hands}
use Rattle.felcantuzza.proofs.fz_replay.Goals as goal

pub returns : goal.returns
returns c =
    let t = hands only_one (Recordings.replay c.args.recording.now c.args.out.now) c.replayed.ensures.0 c.returned.ensures.0 c.returned.ensures.1 in
    (t.0, t.1, c.replayed.ensures.1, c.replayed.ensures.2)
