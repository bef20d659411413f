-- `step::step` meets its contract: the word's bytes are lent to the step over bytes, and read back.
use mathlib.Core.Path.{refl, ap, ◌∙◌}
use native.Mathlib.Omega.{arith}
use lib.ListN.{replicate}
use Rattle.rules.proofs.StaysInRange.{Whole}
use Rattle.step.proofs.StepsAt.{read_back}
use Rattle.rules.specs.declared.Word.{Word}
use Rattle.step.proofs.step.Goals as goal

pub returns : goal.returns
returns c =
    let w = c.args.w in
    let whole : Whole w = record { letters = omega arith; by = omega arith; shaped_by = omega arith; keys = omega arith } in
    ap (λ (x : Word). record { answer = c.step_at-answer.result; word = x }) c.unwrap_or-word.ensures ∙
    read_back w whole c.args.key (replicate 169 0) refl c.write.ensures.1 c.step_at-answer.ensures.0 c.step_at-answer.ensures.1 c.read.ensures
