-- `felcantuzza::replayed` meets its contract: the summary is written where the replay is answered.
use Rattle.std.specs.Prelude.{Err}
use Rattle.std.proofs.lemmas.Result.{err_from_is_err_and}
use mathlib.Core.Path.{sym, ap, ◌∙◌}
use Rattle.felcantuzza.specs.Calls.{only_one, number_by}
use Rattle.felcantuzza.specs.Recordings as Recordings
use Rattle.felcantuzza.proofs.CallAnswers.{changed, unchanged}
use Rattle.felcantuzza.proofs.Recorded.{heard, summed, refused_replay}
use Rattle.felcantuzza.proofs.replayed.Goals as goal

pub returns-in_err-bytes : goal.returns-in_err-bytes
returns-in_err-bytes c =
    let s = c.args.recording.now in
    let out = c.args.out.now in
    let said = Recordings.replay s out in
    let e = heard s out c.replay-replayed.ensures.0 c.in_err-bytes.was in
    let p = err_from_is_err_and c.from_residual.result c.from_residual.ensures.1 in (
      p.1 ∙ ap Err p.2 ∙ sym (ap (number_by only_one) e),
      c.replay-replayed.ensures.1 ∙ refused_replay s out c.replay-replayed.ensures.0 _ c.in_err-bytes.was ∙ unchanged said _ out _ _ e,
      unchanged said _ c.args.summary.now _ _ e,
    )

pub returns : goal.returns
returns c =
    let s = c.args.recording.now in
    let out = c.args.out.now in
    let said = Recordings.replay s out in
    let e = heard s out c.replay-replayed.ensures.0 c.in_ok-bytes.was in
    (sym (ap (number_by only_one) e), c.replay-replayed.ensures.1 ∙ changed said _ out _ e, summed s out c.replay-replayed.ensures.0 ∙ changed said _ c.args.summary.now _ e)
