-- `cards::put_texts` is safe: the shown text lies within its buffer.
use Rattle.std.proofs.Common.{arith, length-take}
use Rattle.cards.proofs.Shows.{shown_within}
use Rattle.cards.proofs.put_texts.Goals as goal

pub slice_bounds-shown-end : goal.slice_bounds-shown-end
slice_bounds-shown-end c = shown_within c.args.w _ _ c.show.result c.in-Ok.n c.in-Ok.is c.show.ensures.0 c.show.ensures.1

pub slice_bounds-text-end : goal.slice_bounds-text-end
slice_bounds-text-end c =
    omega (arith, shown_within c.args.w _ _ c.show.result c.in-Ok.n c.in-Ok.is c.show.ensures.0 c.show.ensures.1, length-take c.in-Ok.n c.show.new.out)
