-- `classes::class` meets its contract: each arm is its entry of the table, and the last is for what is no letter.
use borrow.Author.Rules.{rules}
use Rattle.rules.proofs.Arms.{none_of}
use Rattle.classes.proofs.Entries.{alphabet, at, no_class}
use Rattle.classes.proofs.class.Goals as goal

pub returns-in-97 : goal.returns-in-97
returns-in-97 c = at 0 tt c.in-97.is

pub returns-in-98 : goal.returns-in-98
returns-in-98 c = at 1 tt c.in-98.is

pub returns-in-99 : goal.returns-in-99
returns-in-99 c = at 2 tt c.in-99.is

pub returns-in-100 : goal.returns-in-100
returns-in-100 c = at 3 tt c.in-100.is

pub returns-in-101 : goal.returns-in-101
returns-in-101 c = at 4 tt c.in-101.is

pub returns-in-102 : goal.returns-in-102
returns-in-102 c = at 5 tt c.in-102.is

pub returns-in-103 : goal.returns-in-103
returns-in-103 c = at 6 tt c.in-103.is

pub returns-in-104 : goal.returns-in-104
returns-in-104 c = at 7 tt c.in-104.is

pub returns-in-105 : goal.returns-in-105
returns-in-105 c = at 8 tt c.in-105.is

pub returns-in-106 : goal.returns-in-106
returns-in-106 c = at 9 tt c.in-106.is

pub returns-in-107 : goal.returns-in-107
returns-in-107 c = at 10 tt c.in-107.is

pub returns-in-108 : goal.returns-in-108
returns-in-108 c = at 11 tt c.in-108.is

pub returns-in-109 : goal.returns-in-109
returns-in-109 c = at 12 tt c.in-109.is

pub returns-in-110 : goal.returns-in-110
returns-in-110 c = at 13 tt c.in-110.is

pub returns-in-111 : goal.returns-in-111
returns-in-111 c = at 14 tt c.in-111.is

pub returns-in-112 : goal.returns-in-112
returns-in-112 c = at 15 tt c.in-112.is

pub returns-in-113 : goal.returns-in-113
returns-in-113 c = at 16 tt c.in-113.is

pub returns-in-114 : goal.returns-in-114
returns-in-114 c = at 17 tt c.in-114.is

pub returns-in-115 : goal.returns-in-115
returns-in-115 c = at 18 tt c.in-115.is

pub returns-in-116 : goal.returns-in-116
returns-in-116 c = at 19 tt c.in-116.is

pub returns-in-117 : goal.returns-in-117
returns-in-117 c = at 20 tt c.in-117.is

pub returns-in-118 : goal.returns-in-118
returns-in-118 c = at 21 tt c.in-118.is

pub returns-in-119 : goal.returns-in-119
returns-in-119 c = at 22 tt c.in-119.is

pub returns-in-120 : goal.returns-in-120
returns-in-120 c = at 23 tt c.in-120.is

pub returns-in-121 : goal.returns-in-121
returns-in-121 c = at 24 tt c.in-121.is

pub returns-in-122 : goal.returns-in-122
returns-in-122 c = at 25 tt c.in-122.is

pub returns-in_default : goal.returns-in_default
returns-in_default c = no_class c.args.base (search rules) (none_of (Unit {0}) c.args.base alphabet c.in_default.in_default-own.rest)
