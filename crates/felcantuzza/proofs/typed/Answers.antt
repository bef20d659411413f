-- `felcantuzza::typed` meets its contract: typed where the bytes lie, or refused.
use Rattle.std.specs.Prelude.{Ok, Err}
use Rattle.std.proofs.lemmas.Result.{err_from_is_err_and}
use mathlib.Core.Path.{sym, ap, ◌∙◌}
use Rattle.felcantuzza.specs.Calls.{in_one, number_by}
use Rattle.felcantuzza.proofs.CallAnswers.{typed, typed_bytes}
use Rattle.felcantuzza.proofs.typed.Goals as goal

pub returns-in_err-outcome : goal.returns-in_err-outcome
returns-in_err-outcome c =
    let p = err_from_is_err_and c.from_residual.result c.from_residual.ensures.1 in
    (p.1 ∙ ap Err p.2 ∙ sym (ap (number_by in_one) (typed c.args.lent.now c.args.key c.step_at.ensures.0 c.in_err-outcome.was)), c.step_at.ensures.1 ∙ typed_bytes c.args.lent.now c.args.key)

pub returns : goal.returns
returns c = (
  ap Ok c.outcome_number.ensures ∙ sym (ap (number_by in_one) (typed c.args.lent.now c.args.key c.step_at.ensures.0 c.in_ok-outcome.was)),
  c.step_at.ensures.1 ∙ typed_bytes c.args.lent.now c.args.key,
)
