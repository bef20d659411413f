-- `playing::Play::commit` is safe: the word's line lies within its buffer.
use Rattle.std.proofs.Common.{arith, length-take}
use Rattle.playing.proofs.Lengths.{line_within}
use Rattle.playing.proofs.Play.commit.Goals as goal

pub slice_bounds-line-end : goal.slice_bounds-line-end
slice_bounds-line-end c =
    let word = c.commit_word in
    line_within _ _ _ _ word.result _ c.in-Ok.is word.ensures.0 word.ensures.1

pub slice_bounds-put_committed-end : goal.slice_bounds-put_committed-end
slice_bounds-put_committed-end c =
    let word = c.commit_word in
    omega (arith, line_within _ _ _ _ word.result _ c.in-Ok.is word.ensures.0 word.ensures.1, length-take c.in-Ok.done.bytes word.new.line)
