-- `filter::feed` meets its contract: with that much room the whole block is taken.
use Rattle.std.proofs.Common.{ap, arith, length}
use Rattle.stream.specs.declared.Fed.{Fed}
use Rattle.stream.proofs.Rooms.{all_taken}
use Rattle.filter.proofs.feed.Goals as goal

pub returns : goal.returns
returns c =
    let all = all_taken c.args.state c.args.block.now (length c.args.out.now) c.requires in
    (c.feed.ensures.0, c.feed.ensures.1, omega (arith, ap (λ (r : Fed). r.taken) c.feed.ensures.0, all))
