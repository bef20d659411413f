-- `felcantuzza::fz_next` meets its contract: it returns what `press_number` says.
use Rattle.felcantuzza.specs.Recordings as Recordings
use Rattle.felcantuzza.specs.Calls.{only_one, number_by}
use Rattle.felcantuzza.proofs.CallAnswers.{hands}
use Rattle.felcantuzza.proofs.Recorded.{stepped, moved}
use mathlib.Core.Path.{sym, ap, ◌∙◌}
use Rattle.felcantuzza.proofs.fz_next.Goals as goal

pub returns : goal.returns
returns c =
    let args = c.args in
    let s = args.recording.now in
    let e = stepped s args.mode args.at.now args.in_word.now args.milliseconds.now c.step_at-step.ensures in
    let t = hands only_one (Recordings.next s args.mode args.at.now args.in_word.now args.milliseconds.now) (c.press_number.ensures ∙ sym (ap (number_by only_one) e)) c.returned.ensures.0 c.returned.ensures.1 in
    let m = moved s args.mode args.at.now args.in_word.now args.milliseconds.now c.step_at-step.ensures in
    (t.0, t.1, m.0, m.1, m.2)
