-- `step::counted` meets its contract: each arm raises the count of its outcome.
use mathlib.Core.Path.{sym, ap}
use Rattle.step.specs.LentLetters.{counted_in}
use Rattle.step.proofs.States.{neither}
use Rattle.step.proofs.counted.Goals as goal

pub returns-in-Acted : goal.returns-in-Acted
returns-in-Acted c = sym (ap (counted_in c.args.counts) c.in-Acted.is)

pub returns-in-Undone : goal.returns-in-Undone
returns-in-Undone c = sym (ap (counted_in c.args.counts) c.in-Undone.is)

pub returns : goal.returns
returns c = neither c.args.counts c.args.outcome c.in_default.in_default-own.keys2 c.in_default-outcome.in_default-outcome-own.keys2
