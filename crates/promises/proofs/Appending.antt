-- `AppendedKey` of specs/Appending.antt, by the law on appending and the contract of step.
use Rattle.std.specs.Prelude.{Ok, Result}
use mathlib.Core.Path.{◌≡◌, sym, ap, subst, ◌∙◌}
use Prim.Native.Nat.{ℕ}
use native.Mathlib.Omega.{arith}
use lib.Dec.{T}
use Rattle.rules.specs.TheWord.{word_of, state_of, outcome_of, is_appended}
use Rattle.rules.specs.KeyRoles.{letter_of_key, key_does, type}
use Rattle.rules.specs.WhatComesBack.{step}
use Rattle.rules.specs.Appending.{OneCase}
use Rattle.rules.specs.declared.Outcome.{Outcome}
use Rattle.rules.specs.declared.Outcome.TheVariants.{Acted, Undone, Appended}
use Rattle.rules.specs.declared.Step.{Step}
use Rattle.rules.proofs.Range.{in_range}
use Rattle.rules.proofs.StaysInRange.{next, state_fine, taken_by}
use Rattle.rules.proofs.Records.{state_held, accepted}
use Rattle.rules.proofs.Appends.{appended_key}
use Rattle.promises.specs.Appending.{AppendedKey}
use Rattle.promises.proofs.AsDefined.{stepped}
use Rattle.promises.proofs.FromNumbers.{did_as}
use Rattle.rules.specs.declared.Refusal.{Refusal}

is_appended_law : (o : Outcome) → ◌≡◌ {A = Result Outcome Refusal} (Ok o) (Ok Appended) → T (is_appended o)
is_appended_law (Acted a) e = let z : ◌≡◌ {A = ℕ} 0 1 = cc in absurd (omega arith)
is_appended_law Undone e = let z : ◌≡◌ {A = ℕ} 0 1 = cc in absurd (omega arith)
is_appended_law Appended e = tt

pub appending : AppendedKey
appending w k r a e =
    let s = stepped a in
    let answer : (step w k).answer ≡ Ok Appended = sym (ap (λ (x : Step). x.answer) s) ∙ did_as r.answer Appended e in
    let t = taken_by w k Appended answer in
    let does = accepted w k t.range t.room t.key in
    let fine = (next (word_of w) k t.key (state_fine w (in_range w t.range))).fine.letters in
    let after : state_of (key_does (word_of w) k) ≡ (word_of r.word).state =
    sym (ap (λ (x : Step). (word_of x.word).state) (s ∙ does) ∙ state_held w (type (word_of w) k) fine) in
    subst (OneCase (word_of w).state (letter_of_key k)) after (appended_key (word_of w) k (is_appended_law (outcome_of (key_does (word_of w) k)) (sym (ap (λ (x : Step). x.answer) does) ∙ answer)))
