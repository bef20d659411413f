-- `filter::answer_all` is safe: the header lies within the output, and the output has room for the answers to a block.
use Rattle.std.proofs.Common.{arith, length-take}
use Rattle.filter.proofs.Lengths.{header_in_front}
use Rattle.filter.proofs.answer_all.Goals as goal

pub slice_bounds-out-end : goal.slice_bounds-out-end
slice_bounds-out-end c = header_in_front _ _ c.header.result c.in-Ok.n c.in-Ok.is c.args.program c.header.ensures.0 c.header.ensures.1

pub slice_bounds-written-end : goal.slice_bounds-written-end
slice_bounds-written-end c =
    let within = header_in_front _ _ c.header.result c.in-Ok.n c.in-Ok.is c.args.program c.header.ensures.0 c.header.ensures.1 in
    omega (arith, within, length-take c.in-Ok.n c.header.new.out)
