-- The measure of the cycle of calls {groups_at}: how many groups may still come.
use Rattle.groups.proofs.+groups_at.Given as goal

abbrev pub decreases-groups_at : goal.decreases-groups_at
decreases-groups_at l = l.left
