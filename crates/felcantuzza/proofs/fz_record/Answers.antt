-- `felcantuzza::fz_record` meets its contract: it returns what `recording::write` says.
use mathlib.Core.Path.{◌∙◌}
use Rattle.felcantuzza.specs.Recordings as Recordings
use Rattle.felcantuzza.specs.Calls.{only_one}
use Rattle.felcantuzza.proofs.CallAnswers.{hands}
use Rattle.felcantuzza.proofs.Recorded.{written_number, output_left}
use Rattle.felcantuzza.proofs.fz_record.Goals as goal

pub returns : goal.returns
returns c =
    let args = c.args in
    let t = hands only_one (Recordings.record_drill args.mode args.presses.now args.out.now) (written_number args.mode args.presses.now args.out.now c.write.ensures.0) c.returned.ensures.0 c.returned.ensures.1 in
    (t.0, t.1, c.write.ensures.1 ∙ output_left args.mode args.presses.now args.out.now)
