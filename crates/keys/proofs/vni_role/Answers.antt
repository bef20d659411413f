-- `keys::vni_role` meets its contract: each arm is its row of the table, and the last is for the keys of no row.
use Rattle.rules.specs.KeyRoles.{vni_roles}
use Rattle.rules.proofs.Arms.{none_of}
use Rattle.keys.proofs.Roles.{keys, in_none}
use Rattle.keys.proofs.vni_role.Goals as goal

pub returns-in-49 : goal.returns-in-49
returns-in-49 c = rw c.in-49.is

pub returns-in-50 : goal.returns-in-50
returns-in-50 c = rw c.in-50.is

pub returns-in-51 : goal.returns-in-51
returns-in-51 c = rw c.in-51.is

pub returns-in-52 : goal.returns-in-52
returns-in-52 c = rw c.in-52.is

pub returns-in-53 : goal.returns-in-53
returns-in-53 c = rw c.in-53.is

pub returns-in-48 : goal.returns-in-48
returns-in-48 c = rw c.in-48.is

pub returns-in-54 : goal.returns-in-54
returns-in-54 c = rw c.in-54.is

pub returns-in-55 : goal.returns-in-55
returns-in-55 c = rw c.in-55.is

pub returns-in-56 : goal.returns-in-56
returns-in-56 c = rw c.in-56.is

pub returns-in-57 : goal.returns-in-57
returns-in-57 c = rw c.in-57.is

pub returns-in_default : goal.returns-in_default
returns-in_default c = let key = c.args.key in in_none key vni_roles tt (none_of (Unit {0}) key (keys vni_roles) c.in_default.in_default-own.rest)
