-- `stream::feed` meets its contract. The loop's invariant: what is done so far and what the rest does are together what the whole block does.
use native.Mathlib.Omega.{arith}
use Rattle.stream.proofs.Turns.{at_stuck, one_more}
use Rattle.stream.proofs.feed.Goals as goal

pub returns-in_default : goal.returns-in_default
returns-in_default c =
    let args = c.args in
    let e = c.feed_byte.ensures in
    let q = at_stuck args.state args.block.now args.from args.out.now c.loop-i.out c.loop-i.state c.loop-i.at c.loop-i.i c.loop-i.invariant.0 c.loop-i-test.true c.feed_byte.result c.feed_byte.new.self c.feed_byte.new.out e.0 e.1 e.2 c.in_default.is in
    (q.answer, q.output)

pub loop-i-preserved : goal.loop-i-preserved
loop-i-preserved c =
    let args = c.args in
    let e = c.feed_byte.ensures in (
      one_more args.state args.block.now args.from args.out.now c.loop-i.out c.loop-i.state c.loop-i.at c.loop-i.i c.loop-i.invariant.0 c.loop-i-test.true c.feed_byte.result c.feed_byte.new.self c.feed_byte.new.out e.0 e.1 e.2 c.in-Some.behind c.in-Some.is,
      omega arith,
    )
