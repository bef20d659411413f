-- `letters::point` meets its contract: each way out is one case of the code point.
use mathlib.Core.Path.{◌∙◌, sym, ap, subst}
use Prim.Native.Nat.{ℕ, ◌≤◌}
use native.Mathlib.Omega.{arith}
use Rattle.rules.specs.Letters.{vni}
use Rattle.rules.specs.TheWord.{letter}
use Rattle.rules.specs.CodePoints.{in_case}
use Rattle.letters.proofs.Writes.{too_large, letter_rowed, not_a_letter, no_such_tone, with_row, no_row_toned, no_row_stroke, no_row_plain}
use Rattle.letters.proofs.point.Goals as goal

pub returns-then-letter : goal.returns-then-letter
returns-then-letter c = not_a_letter c.args.letter c.args.tone (sym (too_large vni c.args.letter c.if-letter.true))

pub returns-then-tone-gt-DOT : goal.returns-then-tone-gt-DOT
returns-then-tone-gt-DOT c = no_such_tone c.args.letter c.args.tone (omega arith)

pub in_case-requires : goal.in_case-requires
in_case-requires c = c.point.ensures.1

-- with a row
pub returns-in-Some : goal.returns-in-Some
returns-in-Some c =
    c.in_case.ensures ∙ ap (in_case (letter c.args.letter).capital) c.point.ensures.0
    ∙ with_row c.args.letter c.args.tone c.in-Some.row (omega arith) (omega arith) c.in-Some.ensures.1 c.in-Some.ensures.0

pub returns-then-not-is_letter : goal.returns-then-not-is_letter
returns-then-not-is_letter c = not_a_letter c.args.letter c.args.tone (sym c.is_letter.ensures ∙ c.if-not-is_letter.true)

-- with no row: a tone, đ, and any other letter
pub returns-then-tone-ne-NO_TONE : goal.returns-then-tone-ne-NO_TONE
returns-then-tone-ne-NO_TONE c = no_row_toned c.args.letter 12 (sym c.is_letter.ensures ∙ c.if-not-is_letter.false) c.in_default.ensures (omega arith) c.args.tone (omega arith)

pub in_case-requires-then-small-eq-D_STROKE : goal.in_case-requires-then-small-eq-D_STROKE
in_case-requires-then-small-eq-D_STROKE c = omega arith

pub returns-then-small-eq-D_STROKE : goal.returns-then-small-eq-D_STROKE
returns-then-small-eq-D_STROKE c = c.in_case-then-small-eq-D_STROKE.ensures ∙ no_row_stroke c.args.letter 12 (sym c.is_letter.ensures ∙ c.if-not-is_letter.false) c.in_default.ensures (omega arith) c.args.tone (omega arith) c.if-small-eq-D_STROKE.true

pub in_case-requires-2 : goal.in_case-requires-2
in_case-requires-2 c = subst (λ (b : ℕ). 32 ≤ b) (sym c.base.ensures) (letter_rowed c.args.letter (sym c.is_letter.ensures ∙ c.if-not-is_letter.false)).above

pub returns : goal.returns
returns c =
    c.in_case-2.ensures ∙ ap (in_case (letter c.args.letter).capital) c.base.ensures
    ∙ no_row_plain c.args.letter 12 (sym c.is_letter.ensures ∙ c.if-not-is_letter.false) c.in_default.ensures (omega arith) c.args.tone (omega arith) c.if-small-eq-D_STROKE.false
