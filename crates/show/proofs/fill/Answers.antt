-- `show::fill` meets its contract. The loop's invariant: what is written and what is still to come are together the whole text.
use Rattle.std.specs.Prelude.{Some}
use native.Mathlib.Omega.{arith}
use Rattle.show.proofs.Fills.{begun, one_more, how_many, in_front}
use Rattle.show.proofs.fill.Goals as goal

pub loop-i-init : goal.loop-i-init
loop-i-init c = let args = c.args in begun (Some args.toned) args.tone args.letters.now args.text.now

pub put_letter-at-requires : goal.put_letter-at-requires
put_letter-at-requires c =
    let so = c.loop-i.invariant in
    omega (arith, so.within, so.long, c.loop-i-test.true, c.requires)

pub loop-i-preserved : goal.loop-i-preserved
loop-i-preserved c =
    let args = c.args in
    one_more (Some args.toned) args.tone args.letters.now args.text.now c.loop-i.i c.loop-i.at c.loop-i.text c.loop-i.invariant c.requires
    c.put_letter-at.result c.put_letter-at.new.text c.loop-i-test.true c.put_letter-at.ensures.0 c.put_letter-at.ensures.1

pub shape_of-text : goal.shape_of-text
shape_of-text c = c.loop-i.invariant.long

pub returns : goal.returns
returns c =
    let args = c.args in (
      how_many (Some args.toned) args.tone args.letters.now args.text.now c.loop-i.i c.loop-i.at c.loop-i.text c.loop-i.invariant c.requires c.loop-i-test.false,
      in_front (Some args.toned) args.tone args.letters.now args.text.now c.loop-i.i c.loop-i.at c.loop-i.text c.loop-i.invariant c.requires c.loop-i-test.false,
    )
