-- `step::appended` meets its contract: what is left by an appended key, with its outcome.
use Rattle.step.proofs.States.{as_appended}
use Rattle.step.proofs.appended.Goals as goal

pub returns : goal.returns
returns c = as_appended c.args.touched c.append.ensures
