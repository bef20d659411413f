-- `syllable::nuclei::in_table` meets its contract. Assumes nothing.
use Rattle.syllable.proofs.Rows.{arm, takes_it, leaves_it, opens, unlisted}
use Rattle.syllable.proofs.nuclei.in_table.Goals as goal

pub returns-in-0 : goal.returns-in-0
returns-in-0 c v f n q = takes_it n q 0 (arm 0) tt c.in-195.is tt tt c.in-0.is

pub returns-in_default-matches : goal.returns-in_default-matches
returns-in_default-matches c v f n q = leaves_it n q 0 (arm 0) tt c.in-195.is tt tt c.in_default-matches.in_default-matches-own.rest

pub returns-in-0-matches : goal.returns-in-0-matches
returns-in-0-matches c v f n q = takes_it n q 1 (arm 1) tt c.in-203.is tt tt c.in-0-matches.is

pub returns-in_default-matches-2 : goal.returns-in_default-matches-2
returns-in_default-matches-2 c v f n q = leaves_it n q 1 (arm 1) tt c.in-203.is tt tt c.in_default-matches-2.in_default-matches-2-own.rest

pub returns-in-199 : goal.returns-in-199
returns-in-199 c v f n q = takes_it n q 2 (arm 2) tt c.in-1219.is tt tt c.in-199.is

pub returns-in_default-matches-3 : goal.returns-in_default-matches-3
returns-in_default-matches-3 c v f n q = leaves_it n q 2 (arm 2) tt c.in-1219.is tt tt c.in_default-matches-3.in_default-matches-3-own.rest

pub returns-in-0-matches-2 : goal.returns-in-0-matches-2
returns-in-0-matches-2 c v f n q = takes_it n q 3 (arm 3) tt c.in-211.is tt tt c.in-0-matches-2.is

pub returns-in_default-matches-4 : goal.returns-in_default-matches-4
returns-in_default-matches-4 c v f n q = leaves_it n q 3 (arm 3) tt c.in-211.is tt tt c.in_default-matches-4.in_default-matches-4-own.rest

pub returns-in-0-matches-3 : goal.returns-in-0-matches-3
returns-in-0-matches-3 c v f n q = takes_it n q 4 (arm 4) tt c.in-1759.is tt tt c.in-0-matches-3.is

pub returns-in_default-matches-5 : goal.returns-in_default-matches-5
returns-in_default-matches-5 c v f n q = leaves_it n q 4 (arm 4) tt c.in-1759.is tt tt c.in_default-matches-5.in_default-matches-5-own.rest

pub returns-in-0-matches-4 : goal.returns-in-0-matches-4
returns-in-0-matches-4 c v f n q = takes_it n q 5 (arm 5) tt c.in-243.is tt tt c.in-0-matches-4.is

pub returns-in_default-matches-6 : goal.returns-in_default-matches-6
returns-in_default-matches-6 c v f n q = leaves_it n q 5 (arm 5) tt c.in-243.is tt tt c.in_default-matches-6.in_default-matches-6-own.rest

pub returns-in-221 : goal.returns-in-221
returns-in-221 c v f n q = takes_it n q 6 (arm 6) tt c.in-11996705003.is tt tt c.in-221.is

pub returns-in_default-matches-7 : goal.returns-in_default-matches-7
returns-in_default-matches-7 c v f n q = leaves_it n q 6 (arm 6) tt c.in-11996705003.is tt tt c.in_default-matches-7.in_default-matches-7-own.rest

pub returns-in-864451 : goal.returns-in-864451
returns-in-864451 c v f n q = opens n q 7 (arm 7) tt c.in-864451.is tt

pub returns-in-864479 : goal.returns-in-864479
returns-in-864479 c v f n q = opens n q 7 (arm 8) tt c.in-864479.is tt

pub returns-in-3945574611 : goal.returns-in-3945574611
returns-in-3945574611 c v f n q = opens n q 7 (arm 9) tt c.in-3945574611.is tt

pub returns-in-3547199211 : goal.returns-in-3547199211
returns-in-3547199211 c v f n q = opens n q 7 (arm 10) tt c.in-3547199211.is tt

pub returns-in_default : goal.returns-in_default
returns-in_default c v f n q = unlisted n q c.in_default.in_default-own.rest
