-- A key typed into a record's bytes, and the text of the new word made, in an output with room for any or in another: what typing and showing comes to.
use Rattle.std.specs.Prelude.{Ok, Option, Some, Result}
use mathlib.Core.Path.{◌≡◌, refl, sym, ap, ap₂, ◌∙◌}
use mathlib.Core.List.{List}
use Prim.Native.Nat.{ℕ, ◌-◌, ◌≤◌}
use native.Mathlib.Omega.{arith}
use lib.ListN.{length, take, length-take}
use Rattle.rules.specs.TheWord.{at_front, most_keys, most_bytes}
use Rattle.rules.specs.WhatComesBack.{Written, step}
use Rattle.rules.specs.declared.Word.{Word}
use Rattle.rules.specs.declared.Refusal.{Refusal}
use Rattle.rules.specs.declared.Outcome.{Outcome}
use Rattle.rules.proofs.Range.{few_letters}
use Rattle.show.specs.Filling.{room_text, text_out}
use Rattle.show.proofs.Answers.{made_there}
use Rattle.layout.specs.Places.{as_record, held, or_new}
use Rattle.layout.proofs.RoundTrips.{read_whole}
use Rattle.step.specs.InPlace.{step_at}
use Rattle.step.proofs.StepsAt.{was_done, now_held}
use Rattle.press.specs.StepAndShow.{show_or, step_and_show}
use Rattle.press.proofs.Shows.{Then, did_so}

-- the lent bytes once a key was taken: what is read of them is the new word
module _ (lent : List ℕ) (key : ℕ) (out : List ℕ) {o : Outcome} (d : (step_at lent key).answer ≡ Ok o) where
  abbrev w : Word
  w = (held lent)

  abbrev new : Word
  new = (step w key).word

  so : Then w key out (step w key) refl o
  so = did_so w key out (step w key) refl (read_whole lent) o (was_done lent key d)

  module _ {now : List ℕ} (e : now ≡ (step_at lent key).bytes) {r : Option Word} (p : r ≡ as_record now) {v : Word} (s : r ≡ Some v) {letters : List ℕ} (q : letters ≡ (held now).letters) where
    word_read : v ≡ new
    word_read = ap or_new (sym s ∙ p ∙ ap as_record e ∙ now_held lent key d)

    letters_read : letters ≡ new.letters
    letters_read = q ∙ ap (λ (x : Option Word). (or_new x).letters) (ap as_record e ∙ now_held lent key d)

    pub within : v.count ≤ length letters
    within =
        let counts = ap (λ (x : Word). x.count) word_read in
        let long = ap (λ (l : List ℕ). length l) letters_read in
        omega (arith, counts, long, few_letters new so.range, so.long)

    abbrev text_of : Word → List ℕ → List ℕ
    text_of x l = room_text (take x.count l) x.tone out

    no_less : new.count ≡ new.count - 0
    no_less = omega arith

    same_text : text_of v letters ≡ room_text (take (new.count - 0) new.letters) new.tone out
    same_text = ap₂ text_of word_read letters_read ∙ ap (λ (n : ℕ). room_text (take n new.letters) new.tone out) no_less

    few : length (take (new.count - 0) new.letters) ≤ most_keys
    few = simp length-take (omega (arith, few_letters new so.range))

    pub with_room : {n : ℕ} {after : List ℕ} → most_bytes ≤ length out → n ≡ length (text_of v letters) → after ≡ at_front (text_of v letters) out →
        (record { answer = Ok (o, n); word = new } ≡ (step_and_show w key out).result) × (after ≡ (step_and_show w key out).output)
    with_room {n} {after} h many b =
        let t = made_there (take (new.count - 0) new.letters) new.tone out few n h (many ∙ ap (λ (l : List ℕ). length l) same_text) after (b ∙ ap (λ (l : List ℕ). at_front l out) same_text) in
        (so.result (Ok n) (ap (λ (x : Written). x.answer) t), sym (ap (λ (x : Written). x.output) t) ∙ so.output)

    pub in_any : {a : Result ℕ Refusal} {after : List ℕ} → a ≡ (text_out (take v.count letters) v.tone out).answer → after ≡ (text_out (take v.count letters) v.tone out).output →
        (show_or a o w new ≡ (step_and_show w key out).result) × (after ≡ (step_and_show w key out).output)
    in_any {a} a_is after_is =
        let same = ap₂ (λ (x : Word) (l : List ℕ). text_out (take x.count l) x.tone out) word_read letters_read ∙ ap (λ (n : ℕ). text_out (take n new.letters) new.tone out) no_less in
        (so.result a (sym (a_is ∙ ap (λ (x : Written). x.answer) same)), after_is ∙ ap (λ (x : Written). x.output) same ∙ so.output)
