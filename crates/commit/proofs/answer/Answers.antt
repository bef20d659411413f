-- `commit::answer` meets its contract: the ruling's refusal, or none.
use mathlib.Core.Path.{sym, ap, ◌∙◌}
use Rattle.std.specs.Prelude.{Err}
use Rattle.std.proofs.lemmas.Result.{err_from_is_err_and}
use Rattle.commit.proofs.Parts.{refused_part, granted_part}
use Rattle.commit.proofs.answer.Goals as goal

pub returns-in_err-rule : goal.returns-in_err-rule
returns-in_err-rule c =
    let args = c.args in
    let p = err_from_is_err_and c.from_residual.result c.from_residual.ensures.1 in
    p.1 ∙ ap Err p.2 ∙ (refused_part args.mode args.keys.now args.text.now _ (sym c.rule.ensures ∙ c.in_err-rule.was)).1

pub returns : goal.returns
returns c = granted_part c.args.mode c.args.keys.now c.args.text.now _ (sym c.rule.ensures ∙ c.in_ok-rule.was)
