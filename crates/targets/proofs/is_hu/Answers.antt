-- `targets::is_hu` meets its contract: by the last letter, and by those before it.
use Rattle.std.proofs.Common.{arith, sym, ◌∙◌}
use Prim.Native.Char.{code}
use Rattle.rules.specs.Letters.{plain, words, small}
use Rattle.targets.proofs.Ends.{other_end, same_end}
use Rattle.targets.proofs.is_hu.Goals as goal

pub returns-then-is : goal.returns-then-is
returns-then-is c = same_end c.args.letters.now (omega arith) (small (code "u") plain) (words "h kh th") (sym c.is.ensures ∙ c.if-is.true) c.is_h_kh_th.ensures

pub returns-else-is : goal.returns-else-is
returns-else-is c = c.if-is.false ∙ other_end c.args.letters.now (omega arith) (small (code "u") plain) (words "h kh th") (sym c.is.ensures ∙ c.if-is.false)
