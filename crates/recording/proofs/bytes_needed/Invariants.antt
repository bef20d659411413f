-- `recording::bytes_needed` meets its contract. The loop's invariant: what is counted and what the presses from here on need are what the drill needs.
use mathlib.Core.Path.{◌≡◌}
use mathlib.Core.List.{map}
use Prim.Native.Nat.{◌+◌, ◌*◌, ◌≤◌}
use lib.ListN.{length}
use Rattle.recording.specs.Drills.{press_in, drill_bytes}
use Rattle.recording.proofs.Needed.{rest}
use Rattle.recording.proofs.bytes_needed.Given as goal

abbrev pub invariant-loop-n : goal.invariant-loop-n
invariant-loop-n l = (l.needed + length (rest l.presses l.n-index) ≡ length (drill_bytes l.mode (map press_in l.presses))) × (l.needed ≤ 5 + 10 * l.n-index)
