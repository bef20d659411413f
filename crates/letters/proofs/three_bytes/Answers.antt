-- `letters::three_bytes` meets its contract: the code point of three bytes in range, not overlong, is looked up.
use mathlib.Core.Path.{◌∙◌, ap}
use Rattle.letters.specs.Decoding.{found, read_as}
use Rattle.letters.proofs.Decodes.{three_range, is_three, overlong, no_three}
use Rattle.letters.proofs.three_bytes.Goals as goal

pub point_of_three-point-requires : goal.point_of_three-point-requires
point_of_three-point-requires c = (c.requires, three_range c.args.first c.args.second c.args.third c.follows.ensures c.follows-2.ensures c.if-first-follows.true)

pub returns-then-point-ge2048 : goal.returns-then-point-ge2048
returns-then-point-ge2048 c = c.find.ensures ∙ ap (read_as 3) (ap found c.point_of_three-point.ensures ∙ is_three c.args.first c.args.second c.args.third c.follows.ensures c.follows-2.ensures c.if-first-follows.true (rw c.point_of_three-point.ensures at c.if-point-ge2048.true))

pub returns-else-point-ge2048 : goal.returns-else-point-ge2048
returns-else-point-ge2048 c = overlong c.args.first c.args.second c.args.third c.follows.ensures c.follows-2.ensures c.if-first-follows.true (rw c.point_of_three-point.ensures at c.if-point-ge2048.false)

pub returns-else-first-follows : goal.returns-else-first-follows
returns-else-first-follows c = no_three c.args.first c.args.second c.args.third c.follows.ensures c.follows-2.ensures c.if-first-follows.false
