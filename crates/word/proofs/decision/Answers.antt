-- `word::decision` meets its contract: refused, or decided on the word's letters, verdict and counts.
use Rattle.std.specs.Prelude.{Ok, Err}
use mathlib.Core.Path.{sym, ap, ◌∙◌}
use mathlib.Core.Bool.{◌&&◌}
use native.Mathlib.Omega.{arith}
use lib.Dec.{eqb}
use Rattle.std.proofs.lemmas.Result.{err_from_is_err_and}
use Rattle.rules.proofs.Range.{few_letters}
use Rattle.word.specs.Deciding.{decided_by}
use Rattle.word.proofs.Answers.{within, without, decision_refused, part, decided}
use Rattle.word.proofs.decision.Goals as goal

pub returns-in_err-in_range : goal.returns-in_err-in_range
returns-in_err-in_range c =
    let p = err_from_is_err_and c.from_residual.result c.from_residual.ensures.1 in
    let out = without c.args.w _ (sym c.in_range.ensures ∙ c.in_err-in_range.was) in
    p.1 ∙ ap Err (p.2 ∙ out.1) ∙ sym (decision_refused c.args.w out.0)

pub shared_ref_as_front-word : goal.shared_ref_as_front-word
shared_ref_as_front-word c = omega (arith, few_letters c.args.w (within c.args.w _ (sym c.in_range.ensures ∙ c.in_ok-in_range.was)))

pub returns : goal.returns
returns c =
    let w = c.args.w in
    ap Ok (c.decided.ensures ∙ ap (decided_by (eqb w.acted 0 && eqb w.undone 0) w.closed (part w.letters w.count)) c.verdict.ensures) ∙
    sym (decided w (within c.args.w _ (sym c.in_range.ensures ∙ c.in_ok-in_range.was)))
