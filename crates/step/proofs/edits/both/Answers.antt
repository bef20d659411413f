-- `step::edits::both` meets its contract: both marks are taken off, or both put on, asked about, and kept or put back.
use mathlib.Core.Path.{sym, ap₂, ◌∙◌}
use mathlib.Core.Bool.{◌&&◌}
use Prim.Native.Nat.{ℕ}
use lib.Dec.{eqb}
use Rattle.rules.specs.Letters.{horn}
use Rattle.step.proofs.Stored.{pair_off, pair_stays, pair_back}
use Rattle.step.proofs.edits.both.Goals as goal

pub returns-then-shape : goal.returns-then-shape
returns-then-shape c =
    pair_off c.args.letters.now c.args.i c.requires c.reshaped.result c.reshaped-then-shape.result _ c.reshaped.ensures c.reshaped-then-shape.ensures c.put_pair.ensures
    (sym (ap₂ (λ (a b : ℕ). eqb a horn && eqb b horn) c.shape.ensures c.shape-2.ensures) ∙ c.if-shape.true)

pub returns-then-admitted : goal.returns-then-admitted
returns-then-admitted c =
    pair_stays c.args.letters.now c.args.i c.requires c.reshaped-2.result c.reshaped-3.result _ c.reshaped-2.ensures c.reshaped-3.ensures c.put_pair-2.ensures
    (sym (ap₂ (λ (a b : ℕ). eqb a horn && eqb b horn) c.shape.ensures c.shape-2.ensures) ∙ c.if-shape.false) c.admitted.ensures c.if-admitted.true

pub returns : goal.returns
returns c =
    pair_back c.args.letters.now c.args.i c.requires c.reshaped-2.result c.reshaped-3.result _ c.reshaped-2.ensures c.reshaped-3.ensures c.put_pair-2.ensures
    (sym (ap₂ (λ (a b : ℕ). eqb a horn && eqb b horn) c.shape.ensures c.shape-2.ensures) ∙ c.if-shape.false) c.admitted.ensures c.if-admitted.false _ c.put_pair-3.ensures
