-- `recording::begin` meets its contract: no number, a number that is no mode, or the mode.
use Rattle.std.specs.Prelude.{Ok}
use mathlib.Core.Path.{sym, ap, ◌∙◌}
use Rattle.recording.specs.declared.Begun.{Begun}
use Rattle.recording.specs.declared.Progress.{Progress}
use Rattle.recording.proofs.Steps.{without_mode, wrong_mode_law, in_mode}
use Rattle.recording.proofs.begin.Goals as goal

pub returns-in_default : goal.returns-in_default
returns-in_default c = c.refuse.ensures ∙ without_mode c.args.recording.now (sym c.in_default.is ∙ c.number_at.ensures)

pub returns-then-mode : goal.returns-then-mode
returns-then-mode c = c.refuse-then-mode.ensures ∙ wrong_mode_law c.args.recording.now c.in-Some.mode (sym c.in-Some.is ∙ c.number_at.ensures) c.if-mode.true

pub returns : goal.returns
returns c =
    ap (λ (p : Progress). let b : Begun = record { at = c.in-Some.mode.groups; progress = p } in Ok b) c.new.ensures ∙
    in_mode c.args.recording.now c.in-Some.mode (sym c.in-Some.is ∙ c.number_at.ensures) c.if-mode.false
