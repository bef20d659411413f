-- `keys::role` meets its contract: the mode picks the table.
use Rattle.keys.proofs.Roles.{no_mode}
use Rattle.keys.proofs.role.Goals as goal

pub returns-in-0 : goal.returns-in-0
returns-in-0 c = rw c.in-0.is c.telex_role.ensures

pub returns-in-1 : goal.returns-in-1
returns-in-1 c = rw c.in-1.is c.vni_role.ensures

pub returns-in_default : goal.returns-in_default
returns-in_default c = no_mode c.args.mode c.args.key c.in_default.in_default-own.rest.0.1 c.in_default.in_default-own.rest.1
