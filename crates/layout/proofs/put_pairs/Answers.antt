-- `layout::put_pairs` meets its contract. The loop's invariant: the pairs of the first letters are written.
use Rattle.std.proofs.Common.{arith, get_or}
use Rattle.layout.proofs.Pairs.{high_byte, write_on}
use Rattle.layout.proofs.put_pairs.Goals as goal

pub loop-i-preserved : goal.loop-i-preserved
loop-i-preserved c =
    let n = get_or c.args.letters.now c.loop-i.i 0 in
    write_on c.args.letters.now c.requires.0 c.loop-i.i _ _ c.loop-i.out c.loop-i.invariant (omega arith) (rw c.to_le_bytes.ensures) (rw c.to_le_bytes.ensures (high_byte n (c.type_inv.letters c.loop-i.i).fits))
