-- `keys::telex_role` meets its contract: each arm is its row of the table, in either case, and the last is for the keys of no row.
use mathlib.Core.Path.{refl}
use Rattle.rules.specs.KeyRoles.{telex_roles}
use Rattle.rules.proofs.Arms.{none_in}
use Rattle.keys.proofs.Roles.{keys, InEither, in_either, in_neither}
use Rattle.keys.proofs.telex_role.Goals as goal

pub returns-in-115 : goal.returns-in-115
returns-in-115 c = in_either telex_roles c.in-115.is refl refl

pub returns-in-102 : goal.returns-in-102
returns-in-102 c = in_either telex_roles c.in-102.is refl refl

pub returns-in-114 : goal.returns-in-114
returns-in-114 c = in_either telex_roles c.in-114.is refl refl

pub returns-in-120 : goal.returns-in-120
returns-in-120 c = in_either telex_roles c.in-120.is refl refl

pub returns-in-106 : goal.returns-in-106
returns-in-106 c = in_either telex_roles c.in-106.is refl refl

pub returns-in-122 : goal.returns-in-122
returns-in-122 c = in_either telex_roles c.in-122.is refl refl

pub returns-in-97 : goal.returns-in-97
returns-in-97 c = in_either telex_roles c.in-97.is refl refl

pub returns-in-101 : goal.returns-in-101
returns-in-101 c = in_either telex_roles c.in-101.is refl refl

pub returns-in-111 : goal.returns-in-111
returns-in-111 c = in_either telex_roles c.in-111.is refl refl

pub returns-in-119 : goal.returns-in-119
returns-in-119 c = in_either telex_roles c.in-119.is refl refl

pub returns-in-100 : goal.returns-in-100
returns-in-100 c = in_either telex_roles c.in-100.is refl refl

pub returns-in_default : goal.returns-in_default
returns-in_default c = let key = c.args.key in in_neither key telex_roles (none_in (InEither key) (Unit {0}) (keys telex_roles) c.in_default.in_default-own.rest)
