-- `targets::horns_o_alone` meets its contract: by the last letter, and by those before it.
use Rattle.std.proofs.Common.{arith, sym, ◌∙◌, ◌||◌}
use Rattle.targets.proofs.Ends.{no_o, an_o}
use Rattle.targets.proofs.horns_o_alone.Goals as goal

pub returns-then-is : goal.returns-then-is
returns-then-is c = an_o c.args.letters.now (omega arith) ((λ j. sym c.is.ensures j || (sym c.is-2.ensures j || sym c.is-3.ensures j)) ∙ c.if-is.true) c.is_hu.ensures

pub returns-else-is : goal.returns-else-is
returns-else-is c = c.if-is.false ∙ no_o c.args.letters.now (omega arith) ((λ j. sym c.is.ensures j || (sym c.is-2.ensures j || sym c.is-3.ensures j)) ∙ c.if-is.false)
