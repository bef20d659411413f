-- `recording::put_drill` meets its contract. The loop's invariant: the presses from here on, put where the loop stands, give what all of them give, put where it began.
use mathlib.Core.Path.{◌≡◌}
use mathlib.Core.List.{map}
use Prim.Native.Nat.{◌+◌, ◌≤◌}
use lib.ListN.{length}
use Rattle.recording.specs.Drills.{press_in, drill_bytes}
use Rattle.recording.proofs.Needed.{put_at, rest}
use Rattle.recording.proofs.put_drill.Given as goal

abbrev pub invariant-loop-n : goal.invariant-loop-n
invariant-loop-n l = (l.at + length (rest l.presses l.n-index) ≡ length (drill_bytes l.mode (map press_in l.presses))) ×
    (length (drill_bytes l.mode (map press_in l.presses)) ≤ length l.out) ×
    (length l.out ≡ length l.initial.out) ×
    (put_at (rest l.presses l.n-index) l.at l.out ≡ put_at (rest l.presses 0) l.initial.at l.initial.out)
