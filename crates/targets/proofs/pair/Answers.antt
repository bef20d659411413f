-- `targets::pair` meets its contract, by what is left of the letters.
use Rattle.std.proofs.Common.{sym, ap, ◌∙◌, false, map, List, ℕ, Some}
use Rattle.rules.specs.TheWord.{letter}
use Rattle.targets.specs.Places.{pair_place}
use Rattle.targets.proofs.Turns.{from_zero, pair_on, pair_here, pair_end}
use Rattle.targets.proofs.pair.Goals as goal

pub loop-i-init : goal.loop-i-init
loop-i-init c = rw (c.into_iter-i-iterator.ensures.into_iter_gives, c.enumerate-i-items.ensures.source, c.enumerate-i-items.ensures.count) (c.array_windows.ensures.size, from_zero _ ∙ ap (λ (s : List ℕ). pair_place false (map letter s)) c.array_windows.ensures.rest)

pub returns-then-is_pair : goal.returns-then-is_pair
returns-then-is_pair c =
    let s = c.in-Some.ensures.steps in
    let k = c.loop-i in
    ap Some s.1 ∙ pair_here k.i-iterator.iter.parts.rest.now k.i-iterator.count _ k.after_q k.invariant.0 c.in-Some.field-0-1.now s.0.1.0 s.0.1.1 (sym c.is_pair.ensures ∙ c.if-is_pair.true) ∙ k.invariant.1

pub loop-i-preserved : goal.loop-i-preserved
loop-i-preserved c =
    let s = c.in-Some.ensures.steps in
    let k = c.loop-i in
    (s.0.0 ∙ k.invariant.0, rw (s.2, c.is_q-after_q.ensures) (pair_on k.i-iterator.iter.parts.rest.now k.i-iterator.count _ k.after_q k.invariant.0 c.in-Some.field-0-1.now s.0.1.0 s.0.1.1 _ s.0.1.2 (sym c.is_pair.ensures ∙ c.if-is_pair.false) ∙ k.invariant.1))

pub returns : goal.returns
returns c =
    let s = c.in-None.ensures.steps in
    let k = c.loop-i in
    pair_end k.i-iterator.iter.parts.rest.now k.i-iterator.count _ k.after_q k.invariant.0 s.0.1.0 ∙ k.invariant.1
