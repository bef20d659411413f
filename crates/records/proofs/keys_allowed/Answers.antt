-- `records::keys_allowed` meets its contract: the chain's question is the table's.
use mathlib.Core.Path.{◌∙◌}
use Rattle.std.proofs.Common.{rules, tests}
use Rattle.std.proofs.lemmas.Iterator.{YieldsList-from_slice}
use Rattle.std.proofs.lemmas.Iterator.Search.{all_from_yields_List}
use Rattle.rules.specs.KeyRoles.{is_key}
use Rattle.records.proofs.Conditions.{all_is}
use Rattle.records.proofs.keys_allowed.Goals as goal

pub returns : goal.returns
returns c =
    all_from_yields_List (is_key c.args.mode) _ _ c.all.result c.all.ensures.ran (YieldsList-from_slice c.args.keys.now cc) (λ x b q k. search (rules, tests)) ∙
    all_is (is_key c.args.mode) c.args.keys.now
