-- `replay::played` meets its contract: refused for the mode, or broken off, or too long for the output; else the second pass puts the lines.
-- The first pass is lent an empty part of the output, and leaves the output as it was.
use mathlib.Core.Path.{◌≡◌, sym, ap, subst, ◌∙◌}
use mathlib.Core.List.{List}
use Prim.Native.Nat.{ℕ}
use native.Mathlib.Omega.{arith}
use lib.ListN.{length}
use Rattle.std.specs.Prelude.{Err}
use Rattle.std.proofs.lemmas.Result.{err_from_is_err_and}
use Rattle.replay.specs.Replays.{Replayed}
use Rattle.replay.specs.Passes.{throughout, told, LinesPut}
use Rattle.replay.proofs.Wholes.{refused_begin, is_broken, too_short, all_there, none_in_front}
use Rattle.replay.proofs.played.Goals as goal

pub returns-in_err-begun : goal.returns-in_err-begun
returns-in_err-begun c =
    let a = c.args in
    let p = err_from_is_err_and c.from_residual.result c.from_residual.ensures.1 in
    let e = refused_begin a.recording.now a.out.now _ (sym c.begin.ensures ∙ c.in_err-begun.was) in
    (ap told (p.1 ∙ ap Err p.2) ∙ sym (ap (λ (r : Replayed). r.result) e), sym (ap (λ (r : Replayed). r.output) e))

pub pass-requires : goal.pass-requires
pass-requires c = sym c.begin.ensures ∙ c.in_ok-begun.was

pub returns-in_err-found : goal.returns-in_err-found
returns-in_err-found c =
    let a = c.args in
    let none : length c.pass.new.out ≡ 0 = omega arith in
    let untouched = none_in_front c.pass.new.out a.out.now none in
    let p = err_from_is_err_and c.from_residual-in_err-found.result c.from_residual-in_err-found.ensures.1 in
    let e = is_broken a.recording.now a.out.now c.in_ok-begun.begun (sym c.begin.ensures ∙ c.in_ok-begun.was) _ (sym c.pass.ensures.0 ∙ c.in_err-found.was) in
    (ap told (p.1 ∙ ap Err p.2) ∙ sym (ap (λ (r : Replayed). r.result) e), untouched ∙ sym (ap (λ (r : Replayed). r.output) e))

pub returns-then-out-found : goal.returns-then-out-found
returns-then-out-found c =
    let a = c.args in
    let none : length c.pass.new.out ≡ 0 = omega arith in
    let untouched = none_in_front c.pass.new.out a.out.now none in
    let e = too_short a.recording.now a.out.now c.in_ok-begun.begun (sym c.begin.ensures ∙ c.in_ok-begun.was) c.in_ok-found.found (sym c.pass.ensures.0 ∙ c.in_ok-found.was) (omega (arith, c.if-out-found.true, ap length untouched)) in
    (ap told c.refuse.ensures ∙ sym (ap (λ (r : Replayed). r.result) e), untouched ∙ sym (ap (λ (r : Replayed). r.output) e))

pub pass-requires-2 : goal.pass-requires-2
pass-requires-2 c = sym c.begin.ensures ∙ c.in_ok-begun.was

pub returns : goal.returns
returns c =
    let a = c.args in
    let none : length c.pass.new.out ≡ 0 = omega arith in
    let untouched = none_in_front c.pass.new.out a.out.now none in
    let found = sym c.pass.ensures.0 ∙ c.in_ok-found.was in
    let e = all_there a.recording.now a.out.now c.in_ok-begun.begun (sym c.begin.ensures ∙ c.in_ok-begun.was) c.in_ok-found.found found
    (omega (arith, c.if-out-found.false, ap length untouched)) (subst (λ (l : List ℕ). LinesPut (throughout a.recording.now c.in_ok-begun.begun) l c.pass-2.new.out) untouched c.pass-2.ensures.1) in
    (ap told (c.pass-2.ensures.0 ∙ found) ∙ e.0, e.1)
