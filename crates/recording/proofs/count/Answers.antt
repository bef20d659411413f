-- `recording::count` meets its contract, by that of `groups::written`.
use mathlib.Core.Path.{ap}
use native.Mathlib.Omega.{arith}
use Rattle.groups.specs.declared.Groups.{Groups}
use Rattle.groups.proofs.BothWays.{written_few}
use Rattle.recording.proofs.count.Goals as goal

pub returns : goal.returns
returns c =
    let e = ap (λ (g : Groups). g.count) c.written.ensures in
    (e, omega (arith, e, written_few c.args.n))
