-- `letters::two_bytes` meets its contract: the code point of two bytes in range is looked up.
use mathlib.Core.Path.{◌∙◌, ap}
use Rattle.letters.specs.Decoding.{found, read_as}
use Rattle.letters.proofs.Decodes.{two_range, is_two, no_two}
use Rattle.letters.proofs.two_bytes.Goals as goal

pub point_of_two-requires : goal.point_of_two-requires
point_of_two-requires c = two_range c.args.first c.args.second c.follows.ensures c.if-first-follows.true

pub returns-then-first-follows : goal.returns-then-first-follows
returns-then-first-follows c = c.find.ensures ∙ ap (read_as 2) (ap found c.point_of_two.ensures ∙ is_two c.args.first c.args.second c.follows.ensures c.if-first-follows.true)

pub returns : goal.returns
returns c = no_two c.args.first c.args.second c.follows.ensures c.if-first-follows.false
