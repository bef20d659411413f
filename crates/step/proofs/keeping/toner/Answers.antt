-- `step::keeping::toner` meets its contract, by its tests.
use borrow.Author.Tests.{eq-eqb, ne_eqb}
use Rattle.rules.specs.Letters.{no_tone}
use Rattle.step.specs.LentLetters.{toned_then}
use Rattle.step.proofs.keeping.toner.Goals as goal

pub returns-then-before-after : goal.returns-then-before-after
returns-then-before-after c = let a = c.args in rw (toned_then, eq-eqb a.before a.after c.if-before-after.true)

pub returns-then-after-eq-NO_TONE : goal.returns-then-after-eq-NO_TONE
returns-then-after-eq-NO_TONE c = let a = c.args in rw (toned_then, ne_eqb a.before a.after c.if-before-after.false, eq-eqb a.after no_tone c.if-after-eq-NO_TONE.true)

pub returns : goal.returns
returns c = let a = c.args in rw (toned_then, ne_eqb a.before a.after c.if-before-after.false, ne_eqb a.after no_tone c.if-after-eq-NO_TONE.false)
