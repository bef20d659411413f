-- `layout::put_letters` meets its contract: nothing, or the pairs of the letters in their place.
use native.Mathlib.Omega.{arith}
use lib.ListN.{length-take, length-drop}
use Rattle.layout.proofs.InPlace.{nothing_put, alike, all_put}
use Rattle.layout.proofs.put_letters.Goals as goal

pub returns-then-letters-buffer : goal.returns-then-letters-buffer
returns-then-letters-buffer c = let args = c.args in nothing_put args.letters.now args.buffer.now c.if-letters-buffer.true

pub slice_bounds-put_pairs-end : goal.slice_bounds-put_pairs-end
slice_bounds-put_pairs-end c = let args = c.args in omega (arith, (alike args.letters.now args.buffer.now c.if-letters-buffer.false).1)

pub put_pairs-requires : goal.put_pairs-requires
put_pairs-requires c =
    let args = c.args in
    let t = alike args.letters.now args.buffer.now c.if-letters-buffer.false in
    (t.0, simp (length-take, length-drop) (omega (arith, t.1)))

pub returns : goal.returns
returns c =
    let args = c.args in
    all_put args.letters.now args.buffer.now c.if-letters-buffer.false c.put_pairs.ensures
