-- `step::role_in` meets its contract: no role in a closed word, else the key's.
use mathlib.Core.Path.{sym, ap, ◌∙◌}
use mathlib.Core.Bool.{Bool}
use Rattle.rules.specs.KeyRoles.{role}
use Rattle.step.specs.LentLetters.{unless_closed_role}
use Rattle.step.proofs.role_in.Goals as goal

pub returns-then-closed : goal.returns-then-closed
returns-then-closed c = let args = c.args in sym (ap (λ (b : Bool). unless_closed_role b (role args.mode args.key)) c.if-closed.true)

pub returns : goal.returns
returns c = let args = c.args in c.role.ensures ∙ sym (ap (λ (b : Bool). unless_closed_role b (role args.mode args.key)) c.if-closed.false)
