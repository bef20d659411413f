-- `felcantuzza::fz_type_and_show` meets its contract: it returns what `typed_and_shown` says, and what the key did.
use mathlib.Core.Path.{sym, ap, ◌∙◌}
use Rattle.felcantuzza.specs.Calls as Calls
use Rattle.felcantuzza.specs.Calls.{shown_says, only_one}
use Rattle.felcantuzza.proofs.fz_type_and_show.Goals as goal

pub returns-in-Ok : goal.returns-in-Ok
returns-in-Ok c =
    let args = c.args in
    let e = sym c.typed_and_shown.ensures.0 ∙ ap shown_says c.in-Ok.is in
    (c.returned.ensures.0 ∙ sym (ap Calls.returned e), c.outcome_number.ensures ∙ sym (ap Calls.did e), c.returned.ensures.1 ∙ sym (ap (Calls.value_by only_one) e), c.typed_and_shown.ensures.1, c.typed_and_shown.ensures.2)

pub returns-in-Err : goal.returns-in-Err
returns-in-Err c =
    let args = c.args in
    let e = sym c.typed_and_shown.ensures.0 ∙ ap shown_says c.in-Err.is in
    (c.returned-in-Err.ensures.0 ∙ sym (ap Calls.returned e), sym (ap Calls.did e), c.returned-in-Err.ensures.1 ∙ sym (ap (Calls.value_by only_one) e), c.typed_and_shown.ensures.1, c.typed_and_shown.ensures.2)
