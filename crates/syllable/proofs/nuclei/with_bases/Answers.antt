-- `syllable::nuclei::with_bases` meets its contract: each arm has the nuclei that the list has. Assumes nothing.
use Rattle.syllable.specs.Nuclei.{with_bases}
use Rattle.syllable.proofs.Bases.{found, missing}
use Rattle.syllable.proofs.nuclei.with_bases.Goals as goal

pub returns-in-195 : goal.returns-in-195
unfolding with_bases
returns-in-195 c = found c.in-195.is tt

pub returns-in-798943 : goal.returns-in-798943
unfolding with_bases
returns-in-798943 c = found c.in-798943.is tt

pub returns-in-203 : goal.returns-in-203
unfolding with_bases
returns-in-203 c = found c.in-203.is tt

pub returns-in-223 : goal.returns-in-223
unfolding with_bases
returns-in-223 c = found c.in-223.is tt

pub returns-in-235 : goal.returns-in-235
unfolding with_bases
returns-in-235 c = found c.in-235.is tt

pub returns-in-831711 : goal.returns-in-831711
unfolding with_bases
returns-in-831711 c = found c.in-831711.is tt

pub returns-in-798955 : goal.returns-in-798955
unfolding with_bases
returns-in-798955 c = found c.in-798955.is tt

pub returns-in-831699 : goal.returns-in-831699
unfolding with_bases
returns-in-831699 c = found c.in-831699.is tt

pub returns-in-831731 : goal.returns-in-831731
unfolding with_bases
returns-in-831731 c = found c.in-831731.is tt

pub returns-in-913643 : goal.returns-in-913643
unfolding with_bases
returns-in-913643 c = found c.in-913643.is tt

pub returns-in-211 : goal.returns-in-211
unfolding with_bases
returns-in-211 c = found c.in-211.is tt

pub returns-in-831723 : goal.returns-in-831723
unfolding with_bases
returns-in-831723 c = found c.in-831723.is tt

pub returns-in-243 : goal.returns-in-243
unfolding with_bases
returns-in-243 c = found c.in-243.is tt

pub returns-in-995563 : goal.returns-in-995563
unfolding with_bases
returns-in-995563 c = found c.in-995563.is tt

pub returns-in-3406770411 : goal.returns-in-3406770411
unfolding with_bases
returns-in-3406770411 c = found c.in-3406770411.is tt

pub returns-in-864451 : goal.returns-in-864451
unfolding with_bases
returns-in-864451 c = found c.in-864451.is tt

pub returns-in-913603 : goal.returns-in-913603
unfolding with_bases
returns-in-913603 c = found c.in-913603.is tt

pub returns-in-962755 : goal.returns-in-962755
unfolding with_bases
returns-in-962755 c = found c.in-962755.is tt

pub returns-in-995523 : goal.returns-in-995523
unfolding with_bases
returns-in-995523 c = found c.in-995523.is tt

pub returns-in-913611 : goal.returns-in-913611
unfolding with_bases
returns-in-913611 c = found c.in-913611.is tt

pub returns-in-962763 : goal.returns-in-962763
unfolding with_bases
returns-in-962763 c = found c.in-962763.is tt

pub returns-in-798931 : goal.returns-in-798931
unfolding with_bases
returns-in-798931 c = found c.in-798931.is tt

pub returns-in-962771 : goal.returns-in-962771
unfolding with_bases
returns-in-962771 c = found c.in-962771.is tt

pub returns-in-864479 : goal.returns-in-864479
unfolding with_bases
returns-in-864479 c = found c.in-864479.is tt

pub returns-in-864491 : goal.returns-in-864491
unfolding with_bases
returns-in-864491 c = found c.in-864491.is tt

pub returns-in-962795 : goal.returns-in-962795
unfolding with_bases
returns-in-962795 c = found c.in-962795.is tt

pub returns-in-3943477459 : goal.returns-in-3943477459
unfolding with_bases
returns-in-3943477459 c = found c.in-3943477459.is tt

pub returns-in-3943477491 : goal.returns-in-3943477491
unfolding with_bases
returns-in-3943477491 c = found c.in-3943477491.is tt

pub returns-in-3540791519 : goal.returns-in-3540791519
unfolding with_bases
returns-in-3540791519 c = found c.in-3540791519.is tt

pub returns-in-4077662431 : goal.returns-in-4077662431
unfolding with_bases
returns-in-4077662431 c = found c.in-4077662431.is tt

pub returns-in-3742150879 : goal.returns-in-3742150879
unfolding with_bases
returns-in-3742150879 c = found c.in-3742150879.is tt

pub returns-in-4077662443 : goal.returns-in-4077662443
unfolding with_bases
returns-in-4077662443 c = found c.in-4077662443.is tt

pub returns-in-3540906219 : goal.returns-in-3540906219
unfolding with_bases
returns-in-3540906219 c = found c.in-3540906219.is tt

pub returns-in-3272552683 : goal.returns-in-3272552683
unfolding with_bases
returns-in-3272552683 c = found c.in-3272552683.is tt

pub returns-in-3943559403 : goal.returns-in-3943559403
unfolding with_bases
returns-in-3943559403 c = found c.in-3943559403.is tt

pub returns-in-3943641323 : goal.returns-in-3943641323
unfolding with_bases
returns-in-3943641323 c = found c.in-3943641323.is tt

pub returns-in-3943477483 : goal.returns-in-3943477483
unfolding with_bases
returns-in-3943477483 c = found c.in-3943477483.is tt

pub returns-in-3742118111 : goal.returns-in-3742118111
unfolding with_bases
returns-in-3742118111 c = found c.in-3742118111.is tt

pub returns-in_default : goal.returns-in_default
unfolding with_bases
returns-in_default c = missing c.args.bases c.in_default.in_default-own.rest
