-- `parts::joins` meets its contract.
use Rattle.std.proofs.Common.{◌-◌, length, take, drop, length-take, length-drop, arith}
use Rattle.parts.proofs.Glides.{not_one, no_run, after_q, after_g, neither}
use Rattle.parts.proofs.joins.Goals as goal

pub returns-in_default : goal.returns-in_default
returns-in_default c = not_one c.args.before.now c.args.run.now (λ e. omega arith)

pub returns-in_default-3 : goal.returns-in_default-3
returns-in_default-3 c = not_one c.args.before.now c.args.run.now (λ e. omega arith)

pub returns-in_default-run : goal.returns-in_default-run
returns-in_default-run c = no_run c.args.before.now c.args.run.now (omega arith)

pub returns-in-113 : goal.returns-in-113
returns-in-113 c = after_q c.args.before.now c.args.run.now (length c.args.run.now - 1) (omega arith) (omega arith) c.in-113.is

pub returns-in-103 : goal.returns-in-103
returns-in-103 c =
    let run = c.args.run.now in
    let r = length (take (length run - 1) (drop 1 run)) in
    rw (c.base.ensures, c.is_empty.ensures) (after_g c.args.before.now run r (omega arith) (omega (arith, length-take (length run - 1) (drop 1 run), length-drop 1 run)) c.in-103.is)

pub returns-in_default-2 : goal.returns-in_default-2
returns-in_default-2 c = neither c.args.before.now c.args.run.now (length c.args.run.now - 1) (omega arith) (omega arith) (λ e. omega arith) (λ e. omega arith)
