-- `speller::read` meets its contract. The loop's invariant: the letters read so far in front of what is still to be read is the whole reading.
use mathlib.Core.Path.{sym, ◌∙◌}
use native.Mathlib.Omega.{arith}
use Rattle.speller.proofs.Turns.{begins, at_end, sticks, within_text, moves_on, one_more}
use Rattle.speller.proofs.read.Goals as goal

pub loop-r-init : goal.loop-r-init
loop-r-init c = rw c.new-r.ensures (begins c.args.text.now c.args.letters.now c.requires.1)

pub shape_of-letters-in_default : goal.shape_of-letters-in_default
shape_of-letters-in_default c = c.loop-r.invariant.room ∙ sym c.requires.1

pub returns-in_default : goal.returns-in_default
returns-in_default c = sticks c.loop-r.invariant c.loop-r-test.true (sym c.in_default.is ∙ c.read.ensures)

pub bounds-letters-r : goal.bounds-letters-r
bounds-letters-r c = omega (arith, c.loop-r.invariant.room, c.loop-r.invariant.so_far.fewer, c.loop-r-test.true, c.requires.0)

pub add-requires : goal.add-requires
add-requires c =
    let few = c.requires.0 in
    let end = within_text c.loop-r.invariant c.loop-r-test.true (sym c.read.ensures ∙ c.in-Some.is) in
    (omega (arith, end.1, few), omega (arith, c.loop-r.invariant.so_far.fewer, c.loop-r-test.true, few))

pub loop-r-smaller : goal.loop-r-smaller
loop-r-smaller c =
    let g = c.loop-r.invariant in
    let e = sym c.read.ensures ∙ c.in-Some.is in
    let end = within_text g c.loop-r-test.true e in
    omega (arith, end.0, end.1, moves_on g c.loop-r-test.true e c.add.new.self c.add.ensures)

pub loop-r-preserved : goal.loop-r-preserved
loop-r-preserved c =
    let e = sym c.read.ensures ∙ c.in-Some.is in
    one_more c.loop-r.invariant c.loop-r-test.true e c.add.new.self c.add.ensures c.requires.0

pub shape_of-letters : goal.shape_of-letters
shape_of-letters c = c.loop-r.invariant.room ∙ sym c.requires.1

pub returns : goal.returns
returns c = at_end c.loop-r.invariant c.loop-r-test.false
