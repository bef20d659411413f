-- `recording::Progress::keys_after` meets its contract: none after a space, and one more after a key, for which there is room.
use native.Mathlib.Omega.{arith}
use Rattle.recording.proofs.Presses.{has_room}
use Rattle.recording.proofs.Progress.keys_after.Goals as goal

pub overflow_add-result : goal.overflow_add-result
overflow_add-result c = record { fits = omega (arith, has_room c.args.self c.args.key c.requires c.if-key-eq-SPACE.false) }
