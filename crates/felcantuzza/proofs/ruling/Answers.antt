-- `felcantuzza::ruling` meets its contract: refused, or the ruling's number.
use Rattle.std.specs.Prelude.{Ok, Err}
use Rattle.std.proofs.lemmas.Result.{err_from_is_err_and}
use mathlib.Core.Path.{sym, ap, ◌∙◌}
use Rattle.felcantuzza.specs.Calls.{only_one, number_by}
use Rattle.felcantuzza.proofs.CallAnswers.{committed}
use Rattle.felcantuzza.proofs.ruling.Goals as goal

pub returns-in_err-ruling : goal.returns-in_err-ruling
returns-in_err-ruling c =
    let p = err_from_is_err_and c.from_residual.result c.from_residual.ensures.1 in
    p.1 ∙ ap Err p.2 ∙ sym (ap (number_by only_one) (committed c.args.mode c.args.keys.now c.args.text.now c.rule.result _ c.rule.ensures c.in_err-ruling.was))

pub returns-in-Keep : goal.returns-in-Keep
returns-in-Keep c = sym (ap (number_by only_one) (committed c.args.mode c.args.keys.now c.args.text.now c.rule.result _ c.rule.ensures (c.in_ok-ruling.was ∙ ap Ok c.in-Keep.is)))

pub returns-in-Restore : goal.returns-in-Restore
returns-in-Restore c = sym (ap (number_by only_one) (committed c.args.mode c.args.keys.now c.args.text.now c.rule.result _ c.rule.ensures (c.in_ok-ruling.was ∙ ap Ok c.in-Restore.is)))
