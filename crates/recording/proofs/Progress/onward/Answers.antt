-- `recording::Progress::onward` meets its contract: where a press is fine no sum wraps.
use native.Mathlib.Omega.{arith}
use Rattle.recording.proofs.Presses.{is_fine}
use Rattle.recording.proofs.Progress.onward.Goals as goal

pub keys_after-requires : goal.keys_after-requires
keys_after-requires c = (is_fine c.args.self c.args.x 0 0 c.requires).room

pub overflow_add-result : goal.overflow_add-result
overflow_add-result c = record { fits = omega (arith, (is_fine c.args.self c.args.x 0 0 c.requires).short) }
