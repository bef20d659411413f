-- `commit::commit` meets its contract: the part that the ruling names.
use Rattle.std.specs.Prelude.{Result, Ok}
use mathlib.Core.Path.{sym, ap, ◌∙◌}
use Rattle.commit.proofs.Parts.{kept_part, restored_part, refused_part}
use Rattle.commit.specs.Rulings.{handed_from}
use Rattle.commit.specs.declared.Ruling.{Ruling}
use Rattle.commit.proofs.commit.Goals as goal
use Rattle.rules.specs.declared.Refusal.{Refusal}

pub slice_bounds-result-end : goal.slice_bounds-result-end
slice_bounds-result-end c =
    let args = c.args in
    (kept_part args.mode args.keys.now args.text.now _ (sym c.rule.ensures ∙ c.in-Ok-Keep.is ∙ ap Ok c.in-Ok-Keep.field-0-is)).0

pub returns-in-Ok-Keep : goal.returns-in-Ok-Keep
returns-in-Ok-Keep c =
    let args = c.args in
    let e = sym c.rule.ensures ∙ c.in-Ok-Keep.is ∙ ap Ok c.in-Ok-Keep.field-0-is in
    ((kept_part args.mode args.keys.now args.text.now _ e).1, sym (ap (λ (r : Result Ruling Refusal). handed_from r args.keys.ref_ptr args.text.ref_ptr) e))

pub returns-in-Ok-Restore : goal.returns-in-Ok-Restore
returns-in-Ok-Restore c =
    let args = c.args in
    let e = sym c.rule.ensures ∙ c.in-Ok-Restore.is ∙ ap Ok c.in-Ok-Restore.field-0-is in
    ((restored_part args.mode args.keys.now args.text.now e).0, sym (ap (λ (r : Result Ruling Refusal). handed_from r args.keys.ref_ptr args.text.ref_ptr) e))

pub returns-in-Err : goal.returns-in-Err
returns-in-Err c =
    let args = c.args in
    let e = sym c.rule.ensures ∙ c.in-Err.is in
    ((refused_part args.mode args.keys.now args.text.now _ e).0, sym (ap (λ (r : Result Ruling Refusal). handed_from r args.keys.ref_ptr args.text.ref_ptr) e))
