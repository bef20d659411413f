-- `step::undone` meets its contract: an appended key, and the mark.
use Rattle.step.proofs.States.{as_undone}
use Rattle.step.proofs.undone.Goals as goal

pub returns : goal.returns
returns c = as_undone c.args.touched c.append-next.ensures
