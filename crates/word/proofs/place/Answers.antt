-- `word::place` meets its contract: refused, or answered over the front part.
use Rattle.std.specs.Prelude.{Ok, Err}
use mathlib.Core.Path.{sym, ap, ◌∙◌}
use native.Mathlib.Omega.{arith}
use Rattle.std.proofs.lemmas.Result.{err_from_is_err_and}
use Rattle.rules.proofs.Range.{few_letters}
use Rattle.word.proofs.Answers.{within, without, place_refused, place_found}
use Rattle.word.proofs.place.Goals as goal

pub returns-in_err-in_range : goal.returns-in_err-in_range
returns-in_err-in_range c =
    let p = err_from_is_err_and c.from_residual.result c.from_residual.ensures.1 in
    let out = without c.args.w _ (sym c.in_range.ensures ∙ c.in_err-in_range.was) in
    p.1 ∙ ap Err (p.2 ∙ out.1) ∙ sym (place_refused c.args.w out.0)

pub shared_ref_as_front-tone_place : goal.shared_ref_as_front-tone_place
shared_ref_as_front-tone_place c = omega (arith, few_letters c.args.w (within c.args.w _ (sym c.in_range.ensures ∙ c.in_ok-in_range.was)))

pub returns : goal.returns
returns c = ap Ok c.tone_place.ensures ∙ sym (place_found c.args.w (within c.args.w _ (sym c.in_range.ensures ∙ c.in_ok-in_range.was)))
