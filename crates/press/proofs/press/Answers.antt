-- `press::press` meets its contract: the word's bytes are lent to the function over bytes, and read back.
use mathlib.Core.Path.{refl, ap, ◌∙◌}
use native.Mathlib.Omega.{arith}
use lib.ListN.{replicate}
use Rattle.rules.specs.declared.Word.{Word}
use Rattle.rules.proofs.StaysInRange.{Whole}
use Rattle.press.proofs.PressesAt.{read_back}
use Rattle.press.proofs.press.Goals as goal

pub returns : goal.returns
returns c =
    let w = c.args.w in
    let whole : Whole w = record { letters = omega arith; by = omega arith; shaped_by = omega arith; keys = omega arith } in
    let back = read_back w whole c.args.key c.args.out.now (replicate 169 0) refl c.write.ensures.1 c.press_at-answer.ensures.0 c.press_at-answer.ensures.1 c.press_at-answer.ensures.2 c.read.ensures in
    (ap (λ (x : Word). record { answer = c.press_at-answer.result; word = x }) c.unwrap_or-word.ensures ∙ back.0, back.1)
