-- `show::show_in` meets its contract: refused, or the text of its letters written.
use mathlib.Core.Path.{sym, ap, ◌∙◌}
use Rattle.rules.specs.WhatComesBack.{Written}
use Rattle.show.proofs.Answers.{refused, few, shown_word}
use Rattle.show.proofs.show_in.Goals as goal

pub returns-then-lent_out_of_range : goal.returns-then-lent_out_of_range
returns-then-lent_out_of_range c =
    let e = refused c.args.w.now c.args.out.now c.lent_out_of_range.ensures c.if-lent_out_of_range.true in
    (c.refuse.ensures ∙ sym (ap (λ (x : Written). x.answer) e), sym (ap (λ (x : Written). x.output) e))

pub shared_ref_as_front-text : goal.shared_ref_as_front-text
shared_ref_as_front-text c = few c.args.w.now c.args.out.now c.lent_out_of_range.ensures c.if-lent_out_of_range.false

pub returns : goal.returns
returns c =
    let same = shown_word c.args.w.now c.args.out.now c.lent_out_of_range.ensures c.if-lent_out_of_range.false in
    (c.text.ensures.0 ∙ ap (λ (x : Written). x.answer) same, c.text.ensures.1 ∙ ap (λ (x : Written). x.output) same)
