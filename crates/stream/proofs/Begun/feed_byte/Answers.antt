-- `stream::Begun::feed_byte` meets its contract: kept, answered or stuck.
use mathlib.Core.Path.{sym, ◌∙◌}
use borrow.Author.Rules.{rules}
use Rattle.stream.proofs.Bytes.{is_kept, is_stuck, is_answered, fits_there}
use Rattle.stream.proofs.Begun.feed_byte.Goals as goal

pub returns-then-b-ne10 : goal.returns-then-b-ne10
returns-then-b-ne10 c =
    let q = is_kept c.args.self.now c.args.b c.args.out.now c.args.at c.requires c.if-b-ne10.true _ c.keep.ensures in
    (q.place, q.state, q.output)

pub returns-in_default : goal.returns-in_default
returns-in_default c =
    let e = c.answer_line-answer.ensures in
    let q = is_stuck c.args.self.now c.args.b c.args.out.now c.args.at c.requires c.if-b-ne10.false _ _ c.held.ensures _ (sym e.0 ∙ c.in_default.is) e.1 in
    (q.place, q.state, q.output)

pub overflow_add-result : goal.overflow_add-result
overflow_add-result c =
    let e = c.answer_line-answer.ensures in
    let room = fits_there c.args.self.now c.args.b c.args.out.now c.args.at c.requires c.if-b-ne10.false _ c.args.out.now c.held.ensures _ (sym e.0 ∙ c.in-Ok.is) in
    search rules

pub returns : goal.returns
returns c =
    let e = c.answer_line-answer.ensures in
    let q = is_answered c.args.self.now c.args.b c.args.out.now c.args.at c.requires c.if-b-ne10.false _ _ c.held.ensures _ (sym e.0 ∙ c.in-Ok.is) e.1 in
    (q.place, q.state, q.output)
