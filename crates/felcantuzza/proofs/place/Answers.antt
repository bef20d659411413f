-- `felcantuzza::place` meets its contract: no record, refused, or answered.
use Rattle.std.specs.Prelude.{Ok, Err}
use mathlib.Core.Path.{sym, ap, ◌∙◌}
use Rattle.felcantuzza.specs.Calls.{number_by, only_one, placed, no_record}
use Rattle.std.proofs.lemmas.Result.{err_from_is_err_and}
use Rattle.rules.specs.AnswersInNumbers.{place_says}
use Rattle.rules.specs.WhatComesBack as Rules
use Rattle.felcantuzza.specs.Calls as Calls
use Rattle.felcantuzza.proofs.CallAnswers.{no_word, said, place_number}
use Rattle.felcantuzza.proofs.place.Goals as goal

pub returns-in_default : goal.returns-in_default
unfolding Calls.place
returns-in_default c =
    ap Err c.no_record.ensures ∙ sym (ap (number_by placed) (no_word c.args.lent.now (sym c.in_default.is ∙ c.read.ensures) _))

pub returns-in_err-place : goal.returns-in_err-place
unfolding Calls.place
returns-in_err-place c =
    let p = err_from_is_err_and c.from_residual.result c.from_residual.ensures.1 in
    p.1 ∙ ap Err p.2 ∙ ap (number_by placed) (said c.args.lent.now (sym c.in-Some.is ∙ c.read.ensures) place_says Rules.place_answer (sym c.in_err-place.was ∙ c.place.ensures))

pub returns : goal.returns
unfolding Calls.place
returns c = ap Ok (c.unwrap_or.ensures ∙ place_number c.in_ok-place.place) ∙ ap (number_by placed) (said c.args.lent.now (sym c.in-Some.is ∙ c.read.ensures) place_says Rules.place_answer (sym c.in_ok-place.was ∙ c.place.ensures))
