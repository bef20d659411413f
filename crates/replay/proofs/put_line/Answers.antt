-- `replay::put_line` meets its contract: with no room the output is as it was, and with room the line is copied to its place.
use mathlib.Core.Path.{◌≡◌, ◌∙◌}
use mathlib.Core.List.{◌++◌}
use Prim.Native.Nat.{◌+◌, ◌-◌}
use native.Mathlib.Omega.{arith}
use lib.ListN.{length, take, drop}
use Rattle.replay.proofs.Totals.{no_room, has_room}
use Rattle.replay.proofs.put_line.Goals as goal

pub returns-then-line-out : goal.returns-then-line-out
returns-then-line-out c =
    let a = c.args in
    let after : c.copy_from_slice.new.self ≡ a.line.now = c.copy_from_slice.ensures.after in
    let long : a.at + length a.line.now - a.at ≡ length a.line.now = omega arith in
    (λ i. take a.at a.out.now ++ (after i ++ drop (long i) (drop a.at a.out.now))) ∙ has_room a.at a.line.now a.out.now (omega arith)

pub returns-else-at-out : goal.returns-else-at-out
returns-else-at-out c = no_room c.args.at c.args.line.now c.args.out.now (omega arith)
