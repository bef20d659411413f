-- `syllable::nuclei::takes` meets its contract: by the table, and beside it giêng.
use mathlib.Core.Path.{sym, ◌∙◌}
use mathlib.Core.Bool.{◌&&◌, ◌||◌}
use borrow.Author.Tests.{eq-eqb}
use Rattle.syllable.specs.Numbers.{num}
use Rattle.rules.specs.Letters.{word}
use Rattle.syllable.proofs.PackedWords.{same_is}
use Rattle.syllable.proofs.nuclei.takes.Goals as goal

pub returns-then-nuc-eq-EE : goal.returns-then-nuc-eq-EE
returns-then-nuc-eq-EE c w v f i n q j =
    (sym c.if-in_table.false ∙ c.in_table.ensures v f n q) j ||
    ((sym (eq-eqb c.args.ini (num (word "gi")) c.if-nuc-eq-EE.true.0) ∙ same_is i (word "gi") tt) j && ((sym (eq-eqb c.args.nuc (num (word "ê")) c.if-nuc-eq-EE.true.1) ∙ same_is n (word "ê") tt) j && same_is q (word "ng") tt j))
