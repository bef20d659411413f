-- `groups::number_at` meets its contract, by that of `groups_at`.
use Rattle.groups.specs.Numbers.{number}
use Rattle.groups.proofs.number_at.Goals as goal

pub returns : goal.returns
unfolding number
returns c = c.groups_at.ensures
