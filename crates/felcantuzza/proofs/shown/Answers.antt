-- `felcantuzza::shown` meets its contract: no record, or as `show` says.
use Rattle.std.specs.Prelude.{Err}
use mathlib.Core.Path.{sym, ap, ◌∙◌}
use Rattle.felcantuzza.specs.Calls.{number_by, only_one, placed, no_record}
use Rattle.rules.specs.AnswersInNumbers.{write_says}
use Rattle.rules.specs.WhatComesBack as Rules
use Rattle.felcantuzza.specs.Calls as Calls
use Rattle.felcantuzza.proofs.CallAnswers.{no_word, said, its_number, shown_output, unchanged}
use Rattle.felcantuzza.proofs.shown.Goals as goal

pub returns-in_default : goal.returns-in_default
unfolding Calls.show
returns-in_default c =
    let e = no_word c.args.lent.now (sym c.in_default.is ∙ c.read.ensures) _ in
    (ap Err c.no_record.ensures ∙ sym (ap (number_by only_one) e), unchanged _ _ c.args.out.now _ _ e)

pub returns : goal.returns
unfolding Calls.show
returns c = (
  its_number c.show_in.result ∙ ap (number_by only_one) (said c.args.lent.now (sym c.in-Some.is ∙ c.read.ensures) write_says (λ v. (Rules.show v c.args.out.now).answer) c.show_in.ensures.0),
  c.show_in.ensures.1 ∙ shown_output c.args.lent.now (sym c.in-Some.is ∙ c.read.ensures) c.args.out.now,
)
