-- `letters::is_letter` meets its contract: a plain small letter is one, no number from 4096 on is, and below the tests on the number say it.
use mathlib.Core.Path.{sym, ◌∙◌}
use Rattle.letters.proofs.Writes.{too_large, plain_letter, by_number}
use Rattle.letters.proofs.is_letter.Goals as goal

pub returns-then-is_plain : goal.returns-then-is_plain
returns-then-is_plain c = let args = c.args in plain_letter args.mode args.letter (sym c.is_plain.ensures ∙ c.if-is_plain.true)

pub returns-then-letter : goal.returns-then-letter
returns-then-letter c = let args = c.args in too_large args.mode args.letter c.if-letter.true

pub returns : goal.returns
returns c =
    let args = c.args in
    cc (by_number args.mode args.letter c.if-letter.false, c.is_plain-2.ensures, c.is_shaped.ensures, c.is_plain_digit.ensures)
