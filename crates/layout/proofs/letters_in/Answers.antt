-- `layout::letters_in` meets its contract. The loop's invariant: the first letters are the first numbers of the pairs.
use Rattle.std.proofs.Common.{arith}
use Rattle.layout.proofs.Pairs.{read_on, all_read}
use Rattle.layout.proofs.letters_in.Goals as goal

pub loop-i-preserved : goal.loop-i-preserved
loop-i-preserved c = read_on c.args.pairs.now c.requires c.as_chunks.result.0.now c.as_chunks.ensures.front c.loop-i.i c.from_le_bytes.result c.loop-i.letters c.loop-i.invariant (omega (arith, c.requires, c.as_chunks.ensures.front_len)) c.from_le_bytes.ensures

pub returns : goal.returns
returns c = all_read c.args.pairs.now c.requires c.loop-i.i c.loop-i.letters c.loop-i.invariant (omega (arith, c.requires, c.as_chunks.ensures.front_len))
