-- `playing::columns::Output::put_shown` is safe: the shown text lies within its buffer.
use Rattle.std.proofs.Common.{arith, length-take}
use Rattle.playing.proofs.Lengths.{shown_within}
use Rattle.playing.proofs.columns.Output.put_shown.Goals as goal

pub slice_bounds-text-end : goal.slice_bounds-text-end
slice_bounds-text-end c = shown_within c.args.w _ _ c.show.result _ c.in-Ok.is c.show.ensures.0 c.show.ensures.1

pub slice_bounds-put-end : goal.slice_bounds-put-end
slice_bounds-put-end c =
    omega (arith, shown_within c.args.w _ _ c.show.result _ c.in-Ok.is c.show.ensures.0 c.show.ensures.1, length-take c.in-Ok.n c.show.new.out)
