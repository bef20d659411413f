-- `letters::vowels::row` meets its contract: each arm is its row, and the last is for the letters of no row.
use Rattle.std.proofs.Common.{arith}
use Rattle.rules.specs.CodePoints.{vowels}
use Rattle.letters.specs.Rows.{vowel_row}
use Rattle.rules.proofs.Arms.{none_of}
use Rattle.letters.proofs.Points.{numbers, no_row_law}
use Rattle.letters.proofs.vowels.row.Goals as goal

pub returns-in-97 : goal.returns-in-97
unfolding vowel_row
returns-in-97 c = (omega arith, rw c.in-97.is)

pub returns-in-609 : goal.returns-in-609
unfolding vowel_row
returns-in-609 c = (omega arith, rw c.in-609.is)

pub returns-in-353 : goal.returns-in-353
unfolding vowel_row
returns-in-353 c = (omega arith, rw c.in-353.is)

pub returns-in-101 : goal.returns-in-101
unfolding vowel_row
returns-in-101 c = (omega arith, rw c.in-101.is)

pub returns-in-357 : goal.returns-in-357
unfolding vowel_row
returns-in-357 c = (omega arith, rw c.in-357.is)

pub returns-in-105 : goal.returns-in-105
unfolding vowel_row
returns-in-105 c = (omega arith, rw c.in-105.is)

pub returns-in-111 : goal.returns-in-111
unfolding vowel_row
returns-in-111 c = (omega arith, rw c.in-111.is)

pub returns-in-367 : goal.returns-in-367
unfolding vowel_row
returns-in-367 c = (omega arith, rw c.in-367.is)

pub returns-in-879 : goal.returns-in-879
unfolding vowel_row
returns-in-879 c = (omega arith, rw c.in-879.is)

pub returns-in-117 : goal.returns-in-117
unfolding vowel_row
returns-in-117 c = (omega arith, rw c.in-117.is)

pub returns-in-885 : goal.returns-in-885
unfolding vowel_row
returns-in-885 c = (omega arith, rw c.in-885.is)

pub returns-in-121 : goal.returns-in-121
unfolding vowel_row
returns-in-121 c = (omega arith, rw c.in-121.is)

pub returns-in_default : goal.returns-in_default
unfolding vowel_row
returns-in_default c = no_row_law c.args.small vowels c.requires (none_of (Unit {0}) c.args.small (numbers vowels) c.in_default.in_default-own.rest)
