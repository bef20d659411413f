-- `playing::blocks::Window::fill` meets its contract: what was not yet played stands at the front of the block, and what a read brought behind it.
use Rattle.std.proofs.Common.{◌≡◌, ℕ, ◌+◌, ◌-◌, ◌%◌, ◌^◌, ◌≤◌, length, take, drop, refl, ap, ◌∙◌, ap₂, arith, length-drop, length-take}
use Rattle.playing.specs.Parts.{cannot, reads}
use Rattle.playing.proofs.Fronts.{still_there, read_within}
use Rattle.playing.proofs.blocks.Window.fill.Goals as goal

pub returns-in_default : goal.returns-in_default
returns-in_default c inside within = cannot

longer : (a m n : ℕ) → a ≡ m → a ≤ m + n
longer a m n e = omega arith

pub returns : goal.returns
returns c inside within =
    let w = c.args.self in
    let block = c.args.block.now in
    let end = c.min-end.result in
    let at = c.min-at.result in
    let end_is : end ≡ w.end = omega (arith, c.min-end.ensures) in
    let at_is : at ≡ w.at = omega (arith, c.min-at.ensures) in
    let there = take (end - at) (drop at block) in
    let m = c.to_front-rest.result in
    let long : m ≡ length there = omega (arith, c.to_front-rest.ensures.0, length-take (end - at) (drop at block), length-drop at block) in
    let kept : w.end - w.at ≡ m = omega (arith, c.to_front-rest.ensures.0) in
    let moved = c.to_front-rest.new.block in
    let still = still_there m (length moved - m) there block moved c.read.new.buf long c.to_front-rest.ensures.1 in
    reads _
    (ap (λ (j : ℕ). (w.start + j) % 2 ^ 64) at_is)
    refl
    (longer (w.end - w.at) m c.in-Ok.more kept)
    (read_within m c.in-Ok.more (length moved - m) there block moved c.read.new.buf long c.to_front-rest.ensures.1 c.in-Ok.ensures.bound.0)
    (ap₂ take kept refl ∙ still ∙ λ i. take (end_is i - at_is i) (drop (at_is i) block))
