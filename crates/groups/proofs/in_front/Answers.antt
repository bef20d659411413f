-- `groups::in_front` meets its contract: each way out is one of the two tests.
use mathlib.Core.Path.{sym}
use native.Mathlib.Numerals.{add-one}
use native.Mathlib.Omega.{arith}
use Rattle.groups.proofs.Fronts.{zero_behind, too_large, both_together}
use Rattle.groups.proofs.in_front.Goals as goal

pub returns-then-n-eq0 : goal.returns-then-n-eq0
returns-then-n-eq0 c = let args = c.args in sym ((zero_behind args.low args.n (omega arith)))

pub returns-then-value-ge-LIMIT : goal.returns-then-value-ge-LIMIT
returns-then-value-ge-LIMIT c = let args = c.args in sym ((too_large args.low args.n (λ z. omega arith) c.if-value-ge-LIMIT.true))

pub returns : goal.returns
returns c =
    let args = c.args in
    rw (add-one args.n.groups) (sym ((both_together args.low args.n (λ z. omega arith) c.if-value-ge-LIMIT.false)))
