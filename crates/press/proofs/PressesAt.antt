-- Typing and showing over a record's bytes, by its tests: no record, a key refused, or typed and shown; and over the bytes of a word it is that of the word.
use Rattle.std.specs.Option.{unwrap_or}
use Rattle.std.specs.Prelude.{Result, Ok, Err, is_some, Option, Some}
use mathlib.Core.Path.{◌≡◌, refl, sym, ap, ◌∙◌}
use mathlib.Core.Bool.{Bool, true, false, ◌&&◌}
use mathlib.Core.List.{List}
use Prim.Native.Nat.{ℕ}
use borrow.Author.Tests.{ne_eqb}
use lib.ListN.{length}
use Rattle.rules.specs.WhatComesBack.{step, show}
use Rattle.rules.specs.declared.Word.{Word}
use Rattle.rules.specs.declared.Outcome.{Outcome}
use Rattle.rules.specs.declared.Refusal.{Refusal}
use Rattle.rules.proofs.StaysInRange.{Whole}
use Rattle.layout.specs.Places.{as_bytes, byte, is_mark, record_if, as_record, record_written, is_record, held, or_new}
use Rattle.layout.proofs.Answers.{written}
use Rattle.layout.proofs.InPlace.{long_word}
use Rattle.layout.proofs.RoundTrips.{written_read}
use Rattle.step.specs.InPlace.{step_if, step_at}
use Rattle.step.proofs.StepsAt.{stepped_whole, was_record}
use Rattle.press.specs.StepAndShow.{show_or, pressed_or, step_and_show, ShownAt, bytes_after, leaving, untouched, press_if, press_at}
use Rattle.press.specs.declared.StepShown.{StepShown}
use Rattle.press.proofs.Shows.{refused_so}

module _ (lent : List ℕ) (key : ℕ) (out : List ℕ) where
  abbrev w : Word
  w = held lent

  -- not as many bytes as a record's
  pub not_long : (length lent ≡ 169 → ⊥) → press_at lent key out ≡ untouched (record { number = 8; value = 0 }) lent out
  unfolding press_at as_record
  not_long h = ap (λ (b : Bool). press_if (is_some (record_if (b && is_mark (byte 3 lent)) lent)) w key lent out) (ne_eqb (length lent) 169 h)

  -- the key is refused
  pub refused_at : (x : Refusal) → (step_at lent key).answer ≡ Err x → press_at lent key out ≡ untouched x lent out
  unfolding press_at step_at
  refused_at x = go (is_record lent)
    where
      go : (b : Bool) → (step_if b w key lent).answer ≡ Err x → press_if b w key lent out ≡ untouched x lent out
      go true e = let s = refused_so w key out (step w key) refl x e in λ i. leaving (record { result = sym s.0 i; output = sym s.1 i }) lent
      go false e = ap (λ (a : Result Outcome Refusal). record { answer = no_word a; bytes = lent; output = out }) e
        where
          no_word : Result Outcome Refusal → Result (Outcome × ℕ) Refusal
          no_word (Ok o) = Ok (o, 0)
          no_word (Err r) = Err r

  -- the key is taken
  pub pressed_so : {o : Outcome} → (step_at lent key).answer ≡ Ok o → {s : StepShown} {after : List ℕ} → s ≡ (step_and_show w key out).result → after ≡ (step_and_show w key out).output →
      press_at lent key out ≡ leaving (record { result = s; output = after }) lent
  unfolding press_at
  pressed_so d p q = ap (λ (b : Bool). press_if b w key lent out) (was_record lent key d) ∙ (λ i. leaving (record { result = sym p i; output = sym q i }) lent)

-- over the bytes of a word
module _ (w : Word) (whole : Whole w) (key : ℕ) (out : List ℕ) where
  of_word : press_at (as_bytes w) key out ≡ leaving (step_and_show w key out) (as_bytes w)
  unfolding press_at
  of_word = ap (λ (o : Option Word). press_if (is_some o) (or_new o) key (as_bytes w) out) (written_read w whole)

  holds : (let s = (step_and_show w key out).result in as_record (bytes_after s.answer s.word (as_bytes w)) ≡ Some s.word)
  unfolding step_and_show
  holds = by_step (step w key).answer
    where
      new : Word
      new = (step w key).word

      by_show : (o : Outcome) (a : Result ℕ Refusal) → as_record (bytes_after (show_or a o w new).answer (show_or a o w new).word (as_bytes w)) ≡ Some (show_or a o w new).word
      by_show o (Ok n) = ap as_record (written new (as_bytes w) (long_word w whole)) ∙ written_read new (stepped_whole w key whole)
      by_show o (Err r) = written_read w whole

      by_step : (a : Result Outcome Refusal) → (let s = (pressed_or a w new out).result in as_record (bytes_after s.answer s.word (as_bytes w)) ≡ Some s.word)
      by_step (Ok o) = by_show o (show new out).answer
      by_step (Err r) = written_read w whole

  -- lent, and read back
  pub read_back : {a : Result (Outcome × ℕ) Refusal} {before after left : List ℕ} {r : Option Word} (old : List ℕ) → length old ≡ 169 → before ≡ record_written w old →
      a ≡ (press_at before key out).answer → after ≡ (press_at before key out).bytes → left ≡ (press_at before key out).output → r ≡ as_record after →
      (record { answer = a; word = unwrap_or r w } ≡ (step_and_show w key out).result) × (left ≡ (step_and_show w key out).output)
  read_back {a} {before} {after} {left} {r} old long p q s t e =
      let same = ap (λ (bs : List ℕ). press_at bs key out) (p ∙ written w old long) ∙ of_word in
      let answer = q ∙ ap (λ (x : ShownAt). x.answer) same in
      let word = ap (λ (x : Option Word). unwrap_or x w) (e ∙ ap as_record (s ∙ ap (λ (x : ShownAt). x.bytes) same) ∙ holds) in
      (λ i. record { answer = answer i; word = word i }, t ∙ ap (λ (x : ShownAt). x.output) same)
