-- `step::typed` meets its contract: what the key did, kept and counted in the bytes, is what the step rule says of a key that is taken.
use mathlib.Core.Path.{sym, ap, ◌∙◌}
use mathlib.Core.List.{List}
use Prim.Native.Nat.{ℕ}
use native.Mathlib.Omega.{arith}
use lib.ListN.{length, length-set}
use Rattle.step.specs.InPlace.{held_in}
use Rattle.step.proofs.Steps.{room_in, in_range_of, ready}
use Rattle.step.proofs.RecordKept as Kept
use Rattle.step.proofs.typed.Goals as goal

pub key_does-outcome-requires : goal.key_does-outcome-requires
key_does-outcome-requires c =
    let w = held_in c.args.lent.now c.args.letters.now c.args.mode c.args.n in
    let r = ready w (in_range_of w c.requires.range) c.requires.room in
    (room_in w r c.requires.places, r.fine)

pub slice_bounds-put_appender-end : goal.slice_bounds-put_appender-end
slice_bounds-put_appender-end c = omega (arith, Kept.long_keyed c.args.lent.now c.args.letters.now c.args.mode c.args.n c.args.key c.requires)

pub put_appender-requires : goal.put_appender-requires
put_appender-requires c = Kept.can_append c.args.lent.now c.args.letters.now c.args.mode c.args.n c.args.key c.requires c.key_does-outcome.ensures

pub slice_bounds-put_shapers-end : goal.slice_bounds-put_shapers-end
slice_bounds-put_shapers-end c = omega (arith, Kept.long_placed c.args.lent.now c.args.letters.now c.args.mode c.args.n c.args.key c.requires c.key_does-outcome.ensures c.put_appender.ensures)

pub put_shapers-requires : goal.put_shapers-requires
put_shapers-requires c = Kept.can_shape c.args.lent.now c.args.letters.now c.args.mode c.args.n c.args.key c.requires c.key_does-outcome.ensures c.put_appender.ensures

pub bounds-lent-168 : goal.bounds-lent-168
bounds-lent-168 c = omega (arith, Kept.long_shaped c.args.lent.now c.args.letters.now c.args.mode c.args.n c.args.key c.requires c.key_does-outcome.ensures c.put_appender.ensures c.put_shapers.ensures)

pub bounds-lent-168-2 : goal.bounds-lent-168-2
bounds-lent-168-2 c = omega (arith, Kept.long_shaped c.args.lent.now c.args.letters.now c.args.mode c.args.n c.args.key c.requires c.key_does-outcome.ensures c.put_appender.ensures c.put_shapers.ensures)

pub counted-counts-requires : goal.counted-counts-requires
counted-counts-requires c =
    let r = Kept.range c.args.lent.now c.args.letters.now c.args.mode c.args.n c.args.key c.requires in
    (r.acted, r.undone, r.appended)

pub overflow_add-n : goal.overflow_add-n
overflow_add-n c = omega (arith, c.requires.room)

pub put_numbers-requires : goal.put_numbers-requires
put_numbers-requires c = simp length-set (omega (arith, Kept.long_shaped c.args.lent.now c.args.letters.now c.args.mode c.args.n c.args.key c.requires c.key_does-outcome.ensures c.put_appender.ensures c.put_shapers.ensures))

pub shape_of-lent : goal.shape_of-lent
shape_of-lent c = ap (λ (l : List ℕ). length l) c.put_numbers.ensures ∙ simp length-set (Kept.long_shaped c.args.lent.now c.args.letters.now c.args.mode c.args.n c.args.key c.requires c.key_does-outcome.ensures c.put_appender.ensures c.put_shapers.ensures ∙ sym c.requires.long)

pub returns : goal.returns
returns c = Kept.all_kept c.args.lent.now c.args.letters.now c.args.mode c.args.n c.args.key c.requires c.key_does-outcome.ensures c.put_appender.ensures c.put_shapers.ensures c.toner.ensures c.counted-counts.ensures c.put_numbers.ensures
