-- `step::second_horn` meets its contract: three questions, and the u in a word that passes all.
use mathlib.Core.Path.{sym, ◌∙◌}
use native.Mathlib.Omega.{arith}
use Rattle.rules.specs.KeyRoles.{letter_of_key}
use Rattle.step.proofs.SecondHorns.{u_inside, takes_none, takes_closed, takes_other, takes_it, left_as_it_was, put_on, by_base}
use Rattle.step.proofs.second_horn.Goals as goal
use Rattle.step.proofs.second_horn.Goals.{then-not-awaits_second_horn-via-then-not-awaits_second_horn, then-not-awaits_second_horn-via-else-not-awaits_second_horn+then-rest, then-not-awaits_second_horn-via-else-not-awaits_second_horn+else-rest+then-not-asks_second_horn}

pub returns-then-not-awaits_second_horn : goal.returns-then-not-awaits_second_horn
returns-then-not-awaits_second_horn c =
    let l = c.args.letters.now in
    let k = letter_of_key c.args.key in
    left_as_it_was l c.args.rest k c.requires
    (elim c.then-not-awaits_second_horn.branch [
      | then-not-awaits_second_horn-via-then-not-awaits_second_horn w ↦ takes_none l c.args.rest k (sym c.awaits_second_horn.ensures ∙ w.if-not-awaits_second_horn.true)
      | then-not-awaits_second_horn-via-else-not-awaits_second_horn+then-rest w ↦ takes_closed l c.args.rest k w.if-rest.true
      | then-not-awaits_second_horn-via-else-not-awaits_second_horn+else-rest+then-not-asks_second_horn w ↦ takes_other l c.args.rest k (by_base c.args.key (omega (arith, c.ranges.key)) w.letter_of_key.ensures w.base.ensures w.asks_second_horn.ensures w.if-not-asks_second_horn.true)
    ])

pub overflow_sub-n : goal.overflow_sub-n
overflow_sub-n c = (u_inside c.args.letters.now c.args.rest c.requires (sym c.awaits_second_horn.ensures ∙ c.if-not-awaits_second_horn.false)).0

pub returns : goal.returns
returns c =
    let l = c.args.letters.now in
    let k = letter_of_key c.args.key in
    put_on l c.args.rest k c.requires
    (takes_it l c.args.rest k c.if-rest.false (sym c.awaits_second_horn.ensures ∙ c.if-not-awaits_second_horn.false)
    (by_base c.args.key (omega (arith, c.ranges.key)) c.letter_of_key.ensures c.base.ensures c.asks_second_horn.ensures c.if-not-asks_second_horn.false))
    c.reshaped.result c.reshaped.ensures
