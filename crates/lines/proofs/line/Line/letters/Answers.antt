-- `lines::Line::letters` meets its contract. The loop's invariant: the letters that are left, with a comma behind each, make the line what all of them make it.
use mathlib.Core.Path.{◌≡◌, refl, sym, ap, ap₂, ◌∙◌}
use mathlib.Core.List.{List, [], ◌∷◌, ◌++◌}
use mathlib.Core.Logic.{inl, inr}
use Prim.Native.Nat.{ℕ}
use native.Mathlib.Omega.{arith}
use lib.ListN.{length}
use Rattle.rules.specs.Drill.{or_hyphen, letter_place, letter_places}
use Rattle.lines.proofs.Columns.{as_part, and_then_law}
use Rattle.lines.proofs.KeyPlaces.{commas, one_put, few_put, all_put, all_letters}
use Rattle.lines.proofs.line.Line.letters.Goals as goal

pub loop-appended-init : goal.loop-appended-init
loop-appended-init c =
    let ep : c.into_iter-appended-iterator.result.a.rest.now ≡ c.in-Some-Some.appended.now = cc in
    let eq : c.into_iter-appended-iterator.result.b.rest.now ≡ c.in-Some-Some.shaped.now = cc (c.zip-appended-items.ensures.second.0) in
    let a = c.in-Some-Some.ensures.cases.1 in
    let s = c.in-Some-Some.ensures'.cases.1 in
    record { abreast = omega (arith, ap length ep, ap length eq, a, s, c.requires.1); moved = refl; front = refl }

pub letter-requires : goal.letter-requires
letter-requires c =
    let ep : c.into_iter-appended-iterator.result.a.rest.now ≡ c.in-Some-Some.appended.now = cc in
    omega (arith, few_put c.loop-appended.invariant, ap length ep, c.in-Some-Some.ensures.cases.1, c.requires.0)

pub loop-appended-preserved : goal.loop-appended-preserved
loop-appended-preserved c = one_put c.in-Some.ensures.steps.0 c.in-Some.ensures.steps.1 c.loop-appended.invariant c.letter.ensures

pub letter-requires-2 : goal.letter-requires-2
letter-requires-2 c =
    let ep : c.into_iter-appended-iterator.result.a.rest.now ≡ c.in-Some-Some.appended.now = cc in
    omega (arith, few_put c.loop-appended.invariant, ap length ep, c.in-Some-Some.ensures.cases.1, c.requires.0)

pub returns : goal.returns
returns c =
    let ep : c.into_iter-appended-iterator.result.a.rest.now ≡ c.in-Some-Some.appended.now = cc in
    let eq : c.into_iter-appended-iterator.result.b.rest.now ≡ c.in-Some-Some.shaped.now = cc (c.zip-appended-items.ensures.second.0) in
    let p = c.in-Some-Some.last_appended.now in
    let q = c.in-Some-Some.last_shaped.now in
    let end = c.args.end in
    let a = c.in-Some-Some.ensures.cases in
    let s = c.in-Some-Some.ensures'.cases in
    let none : length c.loop-appended.appended-iterator.a.rest.now ≡ 0 = elim c.in-None.ensures.steps [ inl x ↦ x.1.0 | inr y ↦ sym c.loop-appended.invariant.abreast ∙ y.1.0 ] in
    as_part
    (ap₂ (λ (ps qs : List ℕ). commas ps qs ++ (letter_place p q ++ (end ∷ []))) ep eq ∙ all_letters c.in-Some-Some.appended.now c.in-Some-Some.shaped.now p q end (omega (arith, a.1, s.1, c.requires.1)) ∙
    ap₂ (λ (ps qs : List ℕ). or_hyphen (letter_places ps qs) ++ (end ∷ [])) (sym a.0) (sym s.0))
    (and_then_law (all_put none c.loop-appended.invariant) c.letter-2.ensures)
