-- `records::letters_allowed` meets its contract: the chain's question is the table's.
use mathlib.Core.Path.{◌∙◌}
use Rattle.std.proofs.Common.{rules, tests}
use Rattle.std.proofs.lemmas.Iterator.{YieldsList-from_slice}
use Rattle.std.proofs.lemmas.Iterator.Search.{all_from_yields_List}
use Rattle.letters.specs.Writing.{is_letter}
use Rattle.records.proofs.Conditions.{all_is}
use Rattle.records.proofs.letters_allowed.Goals as goal

pub returns : goal.returns
returns c =
    all_from_yields_List (is_letter c.args.mode) _ _ c.all.result c.all.ensures.ran (YieldsList-from_slice c.args.letters.now cc) (λ x b q k. search (rules, tests)) ∙
    all_is (is_letter c.args.mode) c.args.letters.now
