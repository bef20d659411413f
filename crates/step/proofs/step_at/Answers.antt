-- `step::step_at` meets its contract: no record, each answer by the row of its test, or the key typed.
use Rattle.std.specs.Prelude.{is_some, Option, Some}
use Rattle.layout.specs.Places.{or_new}
use mathlib.Core.Path.{◌≡◌, refl, sym, ap, subst, ◌∙◌}
use mathlib.Core.Bool.{false, not}
use mathlib.Core.List.{List}
use Prim.Native.Nat.{ℕ}
use native.Mathlib.Omega.{arith}
use lib.ListN.{length}
use lib.Seq.{length-take-le}
use Rattle.rules.specs.Refusals.{out_of_range}
use Rattle.rules.proofs.StaysInRange.{Whole}
use Rattle.layout.proofs.RoundTrips.{read_whole}
use Rattle.records.specs.declared.Numbers.{Numbers}
use Rattle.records.proofs.Conditions.{few, by_numbers, by_keys, by_letters}
use Rattle.step.proofs.Steps.{out_of_range_law}
use Rattle.step.proofs.StepsAt.{no_record, refuses, takes_none, takes_it, is_held, ready_at, types}
use Rattle.step.proofs.step_at.Goals as goal
use Rattle.rules.specs.declared.Word.{Word}

pub returns-in_default : goal.returns-in_default
returns-in_default c =
    no_record c.args.lent.now c.args.key (sym (ap is_some (sym c.in_default.is ∙ c.read.ensures))) c.refuse.ensures

pub returns-then-numbers_wrong-places_wrong : goal.returns-then-numbers_wrong-places_wrong
returns-then-numbers_wrong-places_wrong c =
    let bs = c.args.lent.now in
    let w = c.in-Some.w in
    refuses bs c.args.key (Some c.in-Some.w) (sym c.in-Some.is ∙ c.read.ensures) refl 8 0 c.refuse-then-numbers_wrong-places_wrong.ensures
    (out_of_range_law w c.args.key (by_numbers w c.numbers_wrong.ensures c.places_wrong.ensures c.if-numbers_wrong-places_wrong.true))

pub slice_bounds-keys_allowed-end : goal.slice_bounds-keys_allowed-end
slice_bounds-keys_allowed-end c =
    let bs = c.args.lent.now in
    let w = c.in-Some.w in
    let whole : Whole w = subst (λ (x : Option Word). Whole (or_new x)) (sym (sym c.in-Some.is ∙ c.read.ensures)) (read_whole bs) in
    sym (length-take-le w.typed w.keys (omega (arith, whole.keys, (few w c.numbers_wrong.ensures c.places_wrong.ensures c.if-numbers_wrong-places_wrong.false).0)))

pub returns-then-not-keys_allowed : goal.returns-then-not-keys_allowed
returns-then-not-keys_allowed c =
    let bs = c.args.lent.now in
    let w = c.in-Some.w in
    refuses bs c.args.key (Some c.in-Some.w) (sym c.in-Some.is ∙ c.read.ensures) refl 8 0 c.refuse-then-not-keys_allowed.ensures
    (out_of_range_law w c.args.key (by_keys w c.numbers_wrong.ensures c.places_wrong.ensures c.if-numbers_wrong-places_wrong.false c.keys_allowed.ensures c.if-not-keys_allowed.true))

pub slice_bounds-letters_allowed-end : goal.slice_bounds-letters_allowed-end
slice_bounds-letters_allowed-end c =
    let bs = c.args.lent.now in
    let w = c.in-Some.w in
    let long = ap (λ (l : List ℕ). length l) c.letters_of-letters.ensures ∙ (read_whole bs).letters in
    sym (length-take-le w.count c.letters_of-letters.result (omega (arith, long, (few w c.numbers_wrong.ensures c.places_wrong.ensures c.if-numbers_wrong-places_wrong.false).1)))

pub returns-then-not-letters_allowed : goal.returns-then-not-letters_allowed
returns-then-not-letters_allowed c =
    let bs = c.args.lent.now in
    let w = c.in-Some.w in
    let own : c.letters_of-letters.result ≡ w.letters = c.letters_of-letters.ensures ∙ sym (ap (λ (x : Option Word). (or_new x).letters) (sym c.in-Some.is ∙ c.read.ensures)) in
    refuses bs c.args.key (Some c.in-Some.w) (sym c.in-Some.is ∙ c.read.ensures) refl 8 0 c.refuse-then-not-letters_allowed.ensures
    (out_of_range_law w c.args.key
    (by_letters w c.numbers_wrong.ensures c.places_wrong.ensures c.if-numbers_wrong-places_wrong.false c.keys_allowed.ensures c.if-not-keys_allowed.false own c.letters_allowed.ensures ∙ ap not c.if-not-letters_allowed.true))

pub returns-then-at-is_key : goal.returns-then-at-is_key
returns-then-at-is_key c =
    let bs = c.args.lent.now in
    let w = c.in-Some.w in
    let own : c.letters_of-letters.result ≡ w.letters = c.letters_of-letters.ensures ∙ sym (ap (λ (x : Option Word). (or_new x).letters) (sym c.in-Some.is ∙ c.read.ensures)) in
    let range : out_of_range w ≡ false =
    by_letters w c.numbers_wrong.ensures c.places_wrong.ensures c.if-numbers_wrong-places_wrong.false c.keys_allowed.ensures c.if-not-keys_allowed.false own
    c.letters_allowed.ensures ∙ ap not c.if-not-letters_allowed.false in
    takes_none bs c.args.key (Some c.in-Some.w) (sym c.in-Some.is ∙ c.read.ensures) refl range c.is_key.ensures c.if-at-is_key.true c.not_taken.ensures

pub typed-outcome-requires : goal.typed-outcome-requires
typed-outcome-requires c =
    let bs = c.args.lent.now in
    let w = c.in-Some.w in
    let own : c.letters_of-letters.result ≡ w.letters = c.letters_of-letters.ensures ∙ sym (ap (λ (x : Option Word). (or_new x).letters) (sym c.in-Some.is ∙ c.read.ensures)) in
    let range : out_of_range w ≡ false =
    by_letters w c.numbers_wrong.ensures c.places_wrong.ensures c.if-numbers_wrong-places_wrong.false c.keys_allowed.ensures c.if-not-keys_allowed.false own
    c.letters_allowed.ensures ∙ ap not c.if-not-letters_allowed.false in
    let typed_of = ap (λ (n : Numbers). n.typed) c.numbers_of-n.ensures in
    let t = takes_it bs c.args.key (Some c.in-Some.w) (sym c.in-Some.is ∙ c.read.ensures) refl range c.is_key.ensures c.if-at-is_key.false in
    ready_at bs c.args.key (Some c.in-Some.w) (sym c.in-Some.is ∙ c.read.ensures) refl c.numbers_of-n.result c.numbers_of-n.ensures c.letters_of-letters.ensures range (omega (arith, t.0, typed_of)) t.1

pub returns : goal.returns
returns c =
    let bs = c.args.lent.now in
    let w = c.in-Some.w in
    let whole : Whole w = subst (λ (x : Option Word). Whole (or_new x)) (sym (sym c.in-Some.is ∙ c.read.ensures)) (read_whole bs) in
    let same = is_held bs c.args.key (Some c.in-Some.w) (sym c.in-Some.is ∙ c.read.ensures) refl c.numbers_of-n.result c.numbers_of-n.ensures c.letters_of-letters.ensures in
    types bs c.args.key (Some c.in-Some.w) (sym c.in-Some.is ∙ c.read.ensures) refl whole same c.typed-outcome.ensures c.put_letters.ensures
