-- `records::numbers_wrong` meets its contract: the keys' own bound and the sum stand for the bounds of the other counts.
use mathlib.Core.Path.{ap, ◌∙◌}
use mathlib.Core.Bool.{Bool, not, ◌||◌}
use Prim.Native.Nat.{◌+◌}
use lib.Dec.{eqb, ltb}
use Rattle.rules.specs.Letters.{dot}
use Rattle.rules.specs.TheWord.{most_keys}
use Rattle.records.proofs.Conditions.{counts_by_sum}
use Rattle.records.proofs.numbers_wrong.Goals as goal

pub returns : goal.returns
returns c =
    let w = c.args.w.now in
    ap (λ (b : Bool). (((ltb most_keys w.typed || ltb w.typed w.count) || not (eqb (w.acted + w.undone + w.appended) w.typed)) || ltb dot w.tone) || not b) c.is_mode.ensures ∙
    counts_by_sum w
