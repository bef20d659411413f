-- `lines::key_columns` meets its contract: the places of the letters' keys, and behind them that of the tone's.
use native.Mathlib.Omega.{arith}
use lib.ListN.{take, length-take}
use Rattle.rules.proofs.Range.{few_letters}
use Rattle.lines.proofs.KeyPlaces.{letters_column_long}
use Rattle.lines.proofs.key_columns.Goals as goal

pub shared_ref_as_front-letters : goal.shared_ref_as_front-letters
shared_ref_as_front-letters c = omega (arith, few_letters c.args.w c.requires.1)

pub key-requires : goal.key-requires
key-requires c =
    let w = c.args.w in
    omega
    (arith, c.requires.0, c.letters.ensures.moved, letters_column_long (take w.count w.appended_by) (take w.count w.shaped_by) 32, length-take w.count w.appended_by, few_letters w c.requires.1)
