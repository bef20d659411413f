-- `layout::write` meets its contract: nothing, or eight numbers, the keys, the letters, and the places of the keys.
use native.Mathlib.Omega.{arith}
use Rattle.rules.proofs.StaysInRange.{Whole}
use Rattle.layout.proofs.Answers.{nothing_written, all_written}
use Rattle.layout.proofs.write.Goals as goal

pub returns-then-buffer-ne-LENGTH : goal.returns-then-buffer-ne-LENGTH
returns-then-buffer-ne-LENGTH c = nothing_written c.args.w c.args.buffer.now c.if-buffer-ne-LENGTH.true

pub returns : goal.returns
returns c =
    let w = c.args.w in
    let whole : Whole w = record { letters = omega arith; by = omega arith; shaped_by = omega arith; keys = omega arith } in
    all_written w c.args.buffer.now c.if-buffer-ne-LENGTH.false whole c.copy_from_slice.ensures.after c.put_pairs.ensures c.copy_from_slice-2.ensures.after c.copy_from_slice-3.ensures.after
