-- `felcantuzza::begun` meets its contract: the mode and the first place, or refused.
use Rattle.std.specs.Prelude.{Err}
use Rattle.std.proofs.lemmas.Result.{err_from_is_err_and}
use mathlib.Core.Path.{sym, ap, ◌∙◌}
use Rattle.felcantuzza.specs.Calls.{only_one, number_by}
use Rattle.felcantuzza.proofs.Recorded.{begun, begun_at}
use Rattle.felcantuzza.proofs.begun.Goals as goal

pub returns-in_err-begun : goal.returns-in_err-begun
returns-in_err-begun c =
    let s = c.args.recording.now in
    let p = err_from_is_err_and c.from_residual.result c.from_residual.ensures.1 in
    (p.1 ∙ ap Err p.2 ∙ sym (ap (number_by only_one) (begun s c.begin.ensures c.in_err-begun.was)), begun_at s c.begin.ensures c.in_err-begun.was c.args.at.now)

pub returns : goal.returns
returns c =
    let s = c.args.recording.now in
    (sym (ap (number_by only_one) (begun s c.begin.ensures c.in_ok-begun.was)), begun_at s c.begin.ensures c.in_ok-begun.was c.args.at.now)
