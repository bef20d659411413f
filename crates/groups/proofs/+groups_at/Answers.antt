-- `groups::groups_at` meets its contract: nothing is left, the bytes end, the group is the last, or more follow.
use mathlib.Core.Path.{refl, sym, ap, ◌∙◌}
use native.Mathlib.Omega.{arith}
use Prim.Native.Nat.{ℕ, ◌+◌, ◌-◌, ◌%◌}
use Rattle.std.specs.Prelude.{◌≡◌, true, false, length, get_or, Some}
use Rattle.std.proofs.lemmas.Bool.{ltb-true, ltb-false}
use Rattle.std.proofs.lemmas.List.{get_or_read_under}
use lib.Dec.{ltb}
use lib.ListN.{drop}
use Rattle.groups.specs.Numbers.{in_front}
use Rattle.groups.proofs.Reading.{few_groups, none_left, cut_short, the_last, of_none, of_some}
use Rattle.groups.proofs.+groups_at.Goals as goal

pub returns-then-left-eq0 : goal.returns-then-left-eq0
returns-then-left-eq0 t c = none_left c.args.bytes.now c.args.at c.args.left c.if-left-eq0.true

pub returns-in_err-b : goal.returns-in_err-b
returns-in_err-b t c =
    let past : false ≡ ltb c.args.at (length c.args.bytes.now) = c.in_err-b.ensures.lookup.0 in
    c.from_residual.ensures ∙ cut_short c.args.bytes.now c.args.at c.args.left (ltb-false c.args.at (length c.args.bytes.now) (sym past))

pub returns-then-b-lt128 : goal.returns-then-b-lt128
returns-then-b-lt128 t c =
    let within : true ≡ ltb c.args.at (length c.args.bytes.now) = c.in_ok-b.ensures.lookup.0 in
    let e : c.in_ok-b.field-0.now ≡ get_or c.args.bytes.now c.args.at 0 = get_or_read_under c.args.bytes.now c.args.at (length c.args.bytes.now) c.in_ok-b.field-0.now 0 c.in_ok-b.ensures.lookup.1 (ltb-true c.args.at (length c.args.bytes.now) (sym within)) refl in
    rw e (the_last c.args.bytes.now c.args.at c.args.left c.if-left-eq0.false (ltb-true c.args.at (length c.args.bytes.now) (sym within)) (omega (arith, e, c.if-b-lt128.true)))

pub returns-in_err-behind : goal.returns-in_err-behind
returns-in_err-behind t c =
    let within : true ≡ ltb c.args.at (length c.args.bytes.now) = c.in_ok-b.ensures.lookup.0 in
    let e : c.in_ok-b.field-0.now ≡ get_or c.args.bytes.now c.args.at 0 = get_or_read_under c.args.bytes.now c.args.at (length c.args.bytes.now) c.in_ok-b.field-0.now 0 c.in_ok-b.ensures.lookup.1 (ltb-true c.args.at (length c.args.bytes.now) (sym within)) refl in
    c.from_residual-in_err-behind.ensures ∙
    of_none c.args.bytes.now c.args.at c.args.left c.if-left-eq0.false (ltb-true c.args.at (length c.args.bytes.now) (sym within)) (omega (arith, e, c.if-b-lt128.false)) (sym c.in_err-behind.was ∙ c.groups_at.ensures)

pub in_front-requires : goal.in_front-requires
in_front-requires t c =
    let few = few_groups (c.args.left - 1) (drop (c.args.at + 1) c.args.bytes.now) c.in_ok-behind.behind (sym c.in_ok-behind.was ∙ c.groups_at.ensures) in
    omega arith

pub returns : goal.returns
returns t c =
    let within : true ≡ ltb c.args.at (length c.args.bytes.now) = c.in_ok-b.ensures.lookup.0 in
    let e : c.in_ok-b.field-0.now ≡ get_or c.args.bytes.now c.args.at 0 = get_or_read_under c.args.bytes.now c.args.at (length c.args.bytes.now) c.in_ok-b.field-0.now 0 c.in_ok-b.ensures.lookup.1 (ltb-true c.args.at (length c.args.bytes.now) (sym within)) refl in
    c.in_front.ensures ∙
    ap (λ (b : ℕ). in_front (b % 128) (Some c.in_ok-behind.behind)) e ∙
    of_some c.args.bytes.now c.args.at c.args.left c.if-left-eq0.false (ltb-true c.args.at (length c.args.bytes.now) (sym within)) (omega (arith, e, c.if-b-lt128.false)) c.in_ok-behind.behind (sym c.in_ok-behind.was ∙ c.groups_at.ensures)
