-- `filter::end` is safe: what was written lies within the output.
use Rattle.std.proofs.Common.{arith, length-take}
use Rattle.stream.specs.Feeding.{line_of}
use Rattle.filter.proofs.Lengths.{last_in_front}
use Rattle.filter.proofs.end.Goals as goal

pub slice_bounds-written-end : goal.slice_bounds-written-end
slice_bounds-written-end c =
    last_in_front c.args.out.now _ c.finish.result c.in-Ok.n c.in-Ok.is c.args.state.program (line_of c.args.state) c.finish.ensures.0 c.finish.ensures.1

pub slice_bounds-written-end-2 : goal.slice_bounds-written-end-2
slice_bounds-written-end-2 c =
    let within = last_in_front c.args.out.now _ c.finish.result c.in-Ok.n c.in-Ok.is c.args.state.program (line_of c.args.state) c.finish.ensures.0 c.finish.ensures.1 in
    omega (arith, within, length-take c.in-Ok.n c.finish.new.out)
