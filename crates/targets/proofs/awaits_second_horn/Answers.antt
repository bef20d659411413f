-- `targets::awaits_second_horn` meets its contract: by the last letter, and by those before it.
use Rattle.std.proofs.Common.{arith, sym, ◌∙◌}
use Prim.Native.Char.{code}
use Rattle.rules.specs.Letters.{horn, words, small}
use Rattle.targets.proofs.Ends.{other_end, same_end}
use Rattle.targets.proofs.awaits_second_horn.Goals as goal

pub returns-then-is : goal.returns-then-is
returns-then-is c = same_end c.args.letters.now (omega arith) (small (code "o") horn) (words "hu khu thu") (sym c.is.ensures ∙ c.if-is.true) c.is_hu.ensures

pub returns-else-is : goal.returns-else-is
returns-else-is c = c.if-is.false ∙ other_end c.args.letters.now (omega arith) (small (code "o") horn) (words "hu khu thu") (sym c.is.ensures ∙ c.if-is.false)
