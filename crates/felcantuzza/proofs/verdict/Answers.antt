-- `felcantuzza::verdict` meets its contract: no record, refused, or answered.
use Rattle.std.specs.Prelude.{Err}
use mathlib.Core.Path.{sym, ap, ◌∙◌}
use Rattle.felcantuzza.specs.Calls.{number_by, only_one, placed, no_record}
use Rattle.std.proofs.lemmas.Result.{err_from_is_err_and}
use Rattle.rules.specs.AnswersInNumbers.{verdict_says}
use Rattle.rules.specs.WhatComesBack as Rules
use Rattle.felcantuzza.specs.Calls as Calls
use Rattle.felcantuzza.proofs.CallAnswers.{no_word, said}
use Rattle.felcantuzza.proofs.verdict.Goals as goal

pub returns-in_default : goal.returns-in_default
unfolding Calls.verdict
returns-in_default c =
    ap Err c.no_record.ensures ∙ sym (ap (number_by only_one) (no_word c.args.lent.now (sym c.in_default.is ∙ c.read.ensures) _))

pub returns-in_err-verdict : goal.returns-in_err-verdict
unfolding Calls.verdict
returns-in_err-verdict c =
    let p = err_from_is_err_and c.from_residual.result c.from_residual.ensures.1 in
    p.1 ∙ ap Err p.2 ∙ ap (number_by only_one) (said c.args.lent.now (sym c.in-Some.is ∙ c.read.ensures) verdict_says Rules.verdict_answer (sym c.in_err-verdict.was ∙ c.verdict.ensures))

pub returns : goal.returns
unfolding Calls.verdict
returns c = ap (number_by only_one) (said c.args.lent.now (sym c.in-Some.is ∙ c.read.ensures) verdict_says Rules.verdict_answer (sym c.in_ok-verdict.was ∙ c.verdict.ensures))
