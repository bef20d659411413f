-- `letters::capital_point` meets its contract: the two sides of 100 hex.
use native.Mathlib.Omega.{arith}
use borrow.Author.Tests.{lt-ltb, le-ltb}
use Rattle.rules.specs.CodePoints.{capital_point}
use Rattle.letters.proofs.capital_point.Goals as goal

pub overflow_sub-result : goal.overflow_sub-result
overflow_sub-result c = omega arith

pub overflow_sub-result-else-point-lt256 : goal.overflow_sub-result-else-point-lt256
overflow_sub-result-else-point-lt256 c = omega arith

pub returns-then-point-lt256 : goal.returns-then-point-lt256
returns-then-point-lt256 c = rw (capital_point, lt-ltb c.args.point 0x100 c.if-point-lt256.true)

pub returns-else-point-lt256 : goal.returns-else-point-lt256
returns-else-point-lt256 c = rw (capital_point, le-ltb c.args.point 0x100 c.if-point-lt256.false)
