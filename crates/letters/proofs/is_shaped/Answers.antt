-- `letters::is_shaped` meets its contract: each number of the pattern is one of the list, and any other is none of it.
use mathlib.Core.Logic.{inl, inr, ⊎_elim}
use borrow.Author.Tests.{ne_eqb}
use Rattle.letters.proofs.is_shaped.Goals as goal

pub returns-in-609 : goal.returns-in-609
returns-in-609 c = ⊎_elim (λ e. rw e) (⊎_elim (λ e. rw e) (⊎_elim (λ e. rw e) (⊎_elim (λ e. rw e) (⊎_elim (λ e. rw e) (⊎_elim (λ e. rw e) (λ e. rw e)))))) c.in-609.is

pub returns-in_default : goal.returns-in_default
returns-in_default c =
    let n = c.args.small in
    let p = c.in_default.in_default-own.rest.1 in
    rw (
      ne_eqb n 609 (λ e. p (inr (inr (inr (inl e))))),
      ne_eqb n 353 (λ e. p (inl e)),
      ne_eqb n 357 (λ e. p (inr (inl e))),
      ne_eqb n 367 (λ e. p (inr (inr (inl e)))),
      ne_eqb n 879 (λ e. p (inr (inr (inr (inr (inl e)))))),
      ne_eqb n 885 (λ e. p (inr (inr (inr (inr (inr (inl e))))))),
      ne_eqb n 1124 (λ e. p (inr (inr (inr (inr (inr (inr e))))))),
    )
