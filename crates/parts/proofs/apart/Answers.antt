-- `parts::apart` meets its contract.
use Rattle.std.proofs.Common.{sym, ap, ◌∙◌, ◌+◌, ℕ}
use Rattle.parts.proofs.Splits.{joins_is, plain, joined}
use Rattle.parts.proofs.apart.Goals as goal

pub returns-then-joins : goal.returns-then-joins
returns-then-joins c =
    let run = ap (λ (n : ℕ). c.run-before.result + n) c.run.ensures.long in
    let end = ap (λ (n : ℕ). c.run-before.result + c.run.result + n) c.run-2.ensures.long in
    (joined c.args.s.now _ _ _ c.run-before.ensures.long run end (sym (c.joins.ensures ∙ joins_is c.args.s.now _ _ _ c.run-before.ensures.long run end) ∙ c.if-joins.true)).1

pub returns-else-joins : goal.returns-else-joins
returns-else-joins c =
    let run = ap (λ (n : ℕ). c.run-before.result + n) c.run.ensures.long in
    let end = ap (λ (n : ℕ). c.run-before.result + c.run.result + n) c.run-2.ensures.long in
    plain c.args.s.now _ _ _ c.run-before.ensures.long run end (sym (c.joins.ensures ∙ joins_is c.args.s.now _ _ _ c.run-before.ensures.long run end) ∙ c.if-joins.false)
