-- `letters::vowels::find` meets its contract: at each entry the small letter is asked for, then its capital.
use Rattle.std.proofs.Common.{arith, sym, ◌∙◌, ◌*◌}
use Rattle.letters.specs.Decoding.{found}
use Rattle.letters.proofs.Finds.{not_stroke, small_read, capital_read, goes_on, not_read}
use Rattle.letters.proofs.vowels.find.Goals as goal

pub returns-then-point-eq-D_STROKE_POINT : goal.returns-then-point-eq-D_STROKE_POINT
unfolding found
returns-then-point-eq-D_STROKE_POINT c = rw c.if-point-eq-D_STROKE_POINT.true

pub returns-then-point-eq-CAPITAL_D_STROKE_POINT : goal.returns-then-point-eq-CAPITAL_D_STROKE_POINT
unfolding found
returns-then-point-eq-CAPITAL_D_STROKE_POINT c = rw c.if-point-eq-CAPITAL_D_STROKE_POINT.true

pub loop-row-init : goal.loop-row-init
loop-row-init c = not_stroke c.args.point c.if-point-eq-D_STROKE_POINT.false c.if-point-eq-CAPITAL_D_STROKE_POINT.false

pub returns-then-small-point : goal.returns-then-small-point
returns-then-small-point c = small_read c.args.point c.args.length c.loop-row.row c.loop-tone.tone (omega arith) (omega arith) c.loop-tone.invariant c.if-small-point.true c.letter.ensures.0

pub returns-then-capital_point-point : goal.returns-then-capital_point-point
returns-then-capital_point-point c =
    capital_read c.args.point c.args.length c.loop-row.row c.loop-tone.tone (omega arith) (omega arith) c.loop-tone.invariant c.if-small-point.false (sym c.capital_point.ensures ∙ c.if-capital_point-point.true)
    c.letter-then-capital_point-point.ensures.0

pub loop-tone-preserved : goal.loop-tone-preserved
loop-tone-preserved c =
    goes_on c.args.point c.args.length c.loop-row.row c.loop-tone.tone (omega arith) (omega arith) c.loop-tone.invariant c.if-small-point.false (λ e. c.if-capital_point-point.false (c.capital_point.ensures ∙ e))

pub returns : goal.returns
returns c = not_read c.args.point c.args.length (c.loop-row.row * 6) (omega arith) c.loop-row.invariant
