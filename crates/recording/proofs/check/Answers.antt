-- `recording::check` meets its contract: each answer is the row of its test.
use mathlib.Core.Path.{sym, ap, ◌∙◌}
use mathlib.Core.Bool.{not}
use Rattle.recording.proofs.Presses.{as_asked, says_full, says_not_allowed, says_too_long, says_fine}
use Rattle.recording.proofs.check.Goals as goal

pub returns-then-space-progress : goal.returns-then-space-progress
returns-then-space-progress c =
    let a = c.args in
    c.refuse.ensures ∙ says_full a.progress a.milliseconds a.key a.key_at a.time_at c.if-space-progress.true

pub returns-then-not-space-is_key : goal.returns-then-not-space-is_key
returns-then-not-space-is_key c =
    let a = c.args in
    c.refuse-then-not-space-is_key.ensures ∙ says_not_allowed a.progress a.milliseconds a.key a.key_at a.time_at c.if-space-progress.false (as_asked a.progress a.key _ c.is_key.ensures ∙ ap not c.if-not-space-is_key.true)

pub returns-then-too_long : goal.returns-then-too_long
returns-then-too_long c =
    let a = c.args in
    c.refuse-then-too_long.ensures ∙ says_too_long a.progress a.milliseconds a.key a.key_at a.time_at c.if-space-progress.false (as_asked a.progress a.key _ c.is_key.ensures ∙ ap not c.if-not-space-is_key.false) (sym c.too_long.ensures ∙ c.if-too_long.true)

pub returns : goal.returns
returns c =
    let a = c.args in
    says_fine a.progress a.milliseconds a.key a.key_at a.time_at c.if-space-progress.false (as_asked a.progress a.key _ c.is_key.ensures ∙ ap not c.if-not-space-is_key.false) (sym c.too_long.ensures ∙ c.if-too_long.false)
