-- `lines::word_line` meets its contract: behind the six columns there is room for the two of the places.
use Prim.Native.Nat.{◌≤◌}
use native.Mathlib.Omega.{arith}
use lib.ListN.{length, length-map, length-take}
use Rattle.rules.specs.TheWord.{most_keys, word_of}
use Rattle.rules.proofs.Range.{few_letters}
use Rattle.lines.proofs.Words.{few_typed}
use Rattle.lines.proofs.Fits.{word_long}
use Rattle.lines.proofs.word_line.Goals as goal

pub key_columns-requires : goal.key_columns-requires
key_columns-requires c =
    let w = c.args.w in
    let letters : length (word_of w).state.letters ≤ most_keys = simp (length-map, length-take) (omega (arith, few_letters w c.requires.1)) in
    let keys : length (word_of w).keys ≤ most_keys = simp length-take (omega (arith, few_typed w c.requires.1)) in
    (omega (arith, c.requires.0, c.word_columns.ensures.moved, word_long (word_of w) most_keys letters keys c.six_end.result), c.requires.1)
