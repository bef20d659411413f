-- `recording::first_fault` meets its contract. The loop's invariant: the first fault from here on is the first of all.
use mathlib.Core.Path.{sym, ◌∙◌}
use native.Mathlib.Omega.{arith}
use Rattle.recording.proofs.Presses.{is_fine, fine_anywhere}
use Rattle.recording.proofs.first_fault.Goals as goal

pub overflow_cast-given-in-loop-i : goal.overflow_cast-given-in-loop-i
overflow_cast-given-in-loop-i c = omega (arith, (is_fine _ _ _ _ (sym c.check.ensures ∙ c.in_ok-check.was)).short)

pub onward-progress-requires : goal.onward-progress-requires
onward-progress-requires c = fine_anywhere _ _ _ _ 0 0 (sym c.check.ensures ∙ c.in_ok-check.was)
