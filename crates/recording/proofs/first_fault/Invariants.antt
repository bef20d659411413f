-- `recording::first_fault` meets its contract. The loop's invariant: the first fault from here on is the first of all.
use mathlib.Core.Path.{◌≡◌}
use Rattle.recording.specs.Recordings.{none_yet}
use Rattle.recording.proofs.Faults.{fault}
use Rattle.recording.proofs.first_fault.Given as goal

abbrev pub invariant-loop-i : goal.invariant-loop-i
invariant-loop-i l = fault l.progress l.presses l.i ≡ fault (none_yet l.mode) l.presses 0
