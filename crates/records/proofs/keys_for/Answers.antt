-- `records::keys_for` meets its contract, by its test.
use borrow.Author.Tests.{eq-eqb, ne_eqb}
use Rattle.rules.specs.TheWord.{no_key}
use Rattle.records.specs.Numbers.{keys_for}
use Rattle.records.proofs.keys_for.Goals as goal

pub returns-then-place-eq-NO_KEY : goal.returns-then-place-eq-NO_KEY
returns-then-place-eq-NO_KEY c = rw (keys_for, eq-eqb c.args.place no_key c.if-place-eq-NO_KEY.true)

pub returns : goal.returns
returns c = rw (keys_for, ne_eqb c.args.place no_key c.if-place-eq-NO_KEY.false)
