-- `felcantuzza::started` meets its contract: no room for a record, refused or started.
use Rattle.std.specs.Prelude.{Err}
use Rattle.std.proofs.lemmas.Result.{err_from_is_err_and}
use mathlib.Core.Path.{sym, ap, ◌∙◌}
use Rattle.felcantuzza.specs.Calls as Calls
use Rattle.felcantuzza.specs.Calls.{only_one, in_one, placed, number_by}
use Rattle.rules.specs.declared.Start.{Start}
use Rattle.layout.specs.Places.{record_written}
use Rattle.felcantuzza.proofs.CallAnswers.{changed, unchanged, no_room, started}
use Rattle.felcantuzza.proofs.started.Goals as goal

pub returns-then-lent-ne-LENGTH : goal.returns-then-lent-ne-LENGTH
returns-then-lent-ne-LENGTH c =
    let e = no_room c.args.mode c.args.lent.now c.if-lent-ne-LENGTH.true in
    (ap Err c.no_record.ensures ∙ sym (ap (number_by only_one) e), unchanged (Calls.start c.args.mode c.args.lent.now) _ c.args.lent.now _ _ e)

pub returns-in_err-started : goal.returns-in_err-started
returns-in_err-started c =
    let e = started c.args.mode c.args.lent.now c.if-lent-ne-LENGTH.false c.start-started.result _ c.start-started.ensures c.in_err-started.was in
    let p = err_from_is_err_and c.from_residual.result c.from_residual.ensures.1 in
    (p.1 ∙ ap Err p.2 ∙ sym (ap (number_by only_one) e), unchanged (Calls.start c.args.mode c.args.lent.now) _ c.args.lent.now _ _ e)

pub returns : goal.returns
returns c =
    let e = started c.args.mode c.args.lent.now c.if-lent-ne-LENGTH.false c.start-started.result _ c.start-started.ensures c.in_ok-started.was in (
      sym (ap (number_by only_one) e),
      c.write.ensures.1 ∙ ap (λ (x : Start). record_written x.word c.args.lent.now) c.start-started.ensures ∙ changed (Calls.start c.args.mode c.args.lent.now) _ c.args.lent.now _ e,
    )
