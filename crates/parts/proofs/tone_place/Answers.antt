-- `parts::tone_place` meets its contract.
use Rattle.std.proofs.Common.{arith, ◌-◌, take, drop}
use Rattle.parts.proofs.Splits.{cut}
use Rattle.parts.proofs.Places.{no_tone_law, no_nucleus, somewhere}
use Rattle.parts.proofs.tone_place.Goals as goal

pub returns-then-tone-eq-NO_TONE : goal.returns-then-tone-eq-NO_TONE
returns-then-tone-eq-NO_TONE c = no_tone_law _ c.args.tone c.if-tone-eq-NO_TONE.true

pub returns-then-i-n : goal.returns-then-i-n
returns-then-i-n c = no_nucleus c.args.s.now c.args.tone c.apart-parts.result c.apart-parts.ensures c.if-tone-eq-NO_TONE.false c.if-i-n.true

pub offset_bounds-s-i : goal.offset_bounds-s-i
offset_bounds-s-i c = omega (arith, cut c.args.s.now c.apart-parts.result c.apart-parts.ensures)

pub slice_bounds-place_within-end : goal.slice_bounds-place_within-end
slice_bounds-place_within-end c = omega (arith, cut c.args.s.now c.apart-parts.result c.apart-parts.ensures)

pub returns : goal.returns
returns c =
    let p = c.apart-parts.result in
    let s = c.args.s.now in
    somewhere s c.args.tone p c.apart-parts.ensures c.if-tone-eq-NO_TONE.false _ (take (p.nucleus - p.initial) (drop p.initial s)) (cut s p c.apart-parts.ensures).nuc c.if-i-n.false c.place_within.ensures.0
