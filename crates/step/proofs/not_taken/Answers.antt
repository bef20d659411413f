-- `step::not_taken` meets its contract: full, or else not allowed.
use mathlib.Core.Path.{sym, ap, ◌∙◌}
use mathlib.Core.Bool.{Bool, true, false}
use borrow.Author.Tests.{le-leb, lt-leb}
use Rattle.rules.specs.TheWord.{most_keys}
use Rattle.step.specs.InPlace.{refused_with}
use Rattle.step.proofs.not_taken.Goals as goal

pub returns-then-at-ge-KEYS : goal.returns-then-at-ge-KEYS
returns-then-at-ge-KEYS c = let at = c.args.at in c.refuse.ensures ∙ sym (ap (λ (b : Bool). elim b [ true ↦ refused_with 2 most_keys | false ↦ refused_with 3 at ]) (le-leb most_keys at c.if-at-ge-KEYS.true))

pub returns : goal.returns
returns c = let at = c.args.at in c.refuse-2.ensures ∙ sym (ap (λ (b : Bool). elim b [ true ↦ refused_with 2 most_keys | false ↦ refused_with 3 at ]) (lt-leb most_keys at c.if-at-ge-KEYS.false))
