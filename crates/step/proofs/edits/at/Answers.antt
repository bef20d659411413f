-- `step::edits::at` meets its contract: the mark is taken off, or put on, asked about, and kept or put back.
use mathlib.Core.Path.{sym, ◌∙◌}
use lib.ListN.{length-set}
use Rattle.step.proofs.Stored.{taken_off, one_stays, one_back}
use Rattle.step.proofs.edits.at.Goals as goal

pub returns-then-shape-kind : goal.returns-then-shape-kind
returns-then-shape-kind c = taken_off c.args.letters.now c.args.i c.args.kind c.requires c.reshaped.result c.reshaped.ensures (sym c.shape.ensures ∙ c.if-shape-kind.true)

pub returns-then-admitted : goal.returns-then-admitted
returns-then-admitted c =
    one_stays c.args.letters.now c.args.i c.args.kind c.requires c.reshaped-new.result c.reshaped-new.ensures
    (λ h. c.if-shape-kind.false (c.shape.ensures ∙ h)) c.admitted.ensures c.if-admitted.true

pub bounds-letters-i-3 : goal.bounds-letters-i-3
bounds-letters-i-3 c = simp length-set c.requires.inside

pub returns : goal.returns
returns c =
    one_back c.args.letters.now c.args.i c.args.kind c.requires c.reshaped-new.result c.reshaped-new.ensures
    (λ h. c.if-shape-kind.false (c.shape.ensures ∙ h)) c.admitted.ensures c.if-admitted.false
