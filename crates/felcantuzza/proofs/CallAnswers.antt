-- What each call says of bytes that are no record, and of a record; what it then returns, writes as its value and leaves in lent bytes.
use Rattle.std.specs.Prelude.{Option, Some, None, Result, Ok, Err, ⊤, is_some}
use Rattle.std.specs.Option.{unwrap_or}
use mathlib.Core.Path.{◌≡◌, refl, sym, ap, ap₂, ◌∙◌}
use mathlib.Core.Bool.{Bool, true, false}
use mathlib.Core.List.{List, [], ◌∷◌}
use Prim.Native.Nat.{ℕ}
use native.Mathlib.Omega.{arith}
use borrow.Author.Tests.{eq-eqb, ne_eqb}
use lib.ListN.{length}
use Rattle.rules.specs.AnswersInNumbers.{Says, refused, answered, refusing, place_numbers, decision_number, start_says, step_says, write_says}
use Rattle.rules.specs.Refusals.{refusal}
use Rattle.rules.specs.Decision.{decision}
use Rattle.rules.specs.WhatComesBack as Rules
use Rattle.rules.specs.declared.Word.{Word}
use Rattle.rules.specs.declared.Refusal.{Refusal}
use Rattle.rules.specs.declared.Start.{Start}
use Rattle.rules.specs.declared.Outcome.{Outcome}
use Rattle.rules.specs.declared.Decision.{Decision}
use Rattle.rules.specs.declared.Decision.TheVariants.{Keep as Kept, Restore as Restored}
use Rattle.rules.proofs.Refused.{refused_show}
use Rattle.layout.specs.Places.{as_record, record_written, is_record, held, or_new}
use Rattle.step.specs.InPlace.{bytes_after, step_if, step_at}
use Rattle.press.specs.StepAndShow.{show_or, pressed_or, step_and_show, ShownAt, press_if, press_at}
use Rattle.press.specs.StepAndShow.{bytes_after as shown_after}
use Rattle.press.specs.declared.StepShown.{StepShown}
use Rattle.press.proofs.PressesAt as PressesAt
use Rattle.commit.specs.Rulings.{ruling_or, ruling_of}
use Rattle.commit.specs.Rulings.{decided as ruled}
use Rattle.commit.specs.declared.Ruling.{Ruling}
use Rattle.commit.specs.declared.Ruling.TheVariants.{Keep, Restore}
use Rattle.felcantuzza.specs.Calls as Calls
use Rattle.felcantuzza.specs.Calls.{returned, value_by, number_by, only_one, placed, unless_refused, of_record, no_record, shown_says, commit_or}

-- a call returns what its answer's number or refusal is
module _ (one : List ℕ → ℕ) where
  code : (s : Says) → returned (write_says (number_by one s)) ≡ returned s
  code (answered ns) = refl
  code (refused n m) = refl

  value : (s : Says) → value_by only_one (write_says (number_by one s)) ≡ value_by one s
  value (answered ns) = refl
  value (refused n m) = refl

  pub hands : (s : Says) {a : Result ℕ Refusal} {r v : ℕ} → a ≡ number_by one s → r ≡ returned (write_says a) → v ≡ value_by only_one (write_says a) → (r ≡ returned s) × (v ≡ value_by one s)
  hands s e p q =
      (p ∙ ap (λ (x : Result ℕ Refusal). returned (write_says x)) e ∙ code s, q ∙ ap (λ (x : Result ℕ Refusal). value_by only_one (write_says x)) e ∙ value s)

pub its_number : (a : Result ℕ Refusal) → a ≡ number_by only_one (write_says a)
its_number (Ok n) = refl
its_number (Err x) = refl

pub place_number : (p : Option ℕ) → unwrap_or p 255 ≡ placed (place_numbers p)
place_number None = refl
place_number (Some n) = refl

module _ (s : Says) (new old : List ℕ) where
  pub changed : (ns : List ℕ) → s ≡ answered ns → new ≡ unless_refused s new old
  changed ns e = sym (ap (λ (x : Says). unless_refused x new old) e)

  pub unchanged : (n m : ℕ) → s ≡ refused n m → old ≡ unless_refused s new old
  unchanged n m e = sym (ap (λ (x : Says). unless_refused x new old) e)

-- a call that returns another number than 0 leaves the lent bytes
pub refused_unchanged : (s : Says) (new old : List ℕ) → (returned s ≡ 0 → ⊥) → unless_refused s new old ≡ old
refused_unchanged (answered ns) new old h = absurd (h refl)
refused_unchanged (refused n m) new old h = refl

module _ (mode : ℕ) (lent : List ℕ) where
  pub no_room : (length lent ≡ 169 → ⊥) → Calls.start mode lent ≡ refusing no_record
  unfolding Calls.start
  no_room h = ap (λ (b : Bool). of_record b (start_says (Rules.start mode).answer)) (ne_eqb (length lent) 169 h)

  pub started : length lent ≡ 169 → (s : Start) (a : Result ⊤ Refusal) → s ≡ Rules.start mode → s.answer ≡ a → Calls.start mode lent ≡ start_says a
  unfolding Calls.start
  started h s a p q = ap₂ (λ (b : Bool) (x : Result ⊤ Refusal). of_record b (start_says x)) (eq-eqb (length lent) 169 h) (sym (ap (λ (x : Start). x.answer) p) ∙ q)

-- a key typed where the lent bytes lie
module _ (lent : List ℕ) (key : ℕ) where
  pub typed : {a x : Result Outcome Refusal} → a ≡ (step_at lent key).answer → a ≡ x → Calls.type lent key ≡ step_says x
  unfolding Calls.type step_at
  typed p q = go (is_record lent) ∙ ap step_says (sym p ∙ q)
    where
      go : (b : Bool) → of_record b (step_says (Rules.step (held lent) key).answer) ≡ step_says (step_if b (held lent) key lent).answer
      go true = refl
      go false = refl

  pub typed_bytes : (step_at lent key).bytes ≡ Calls.type_word lent key
  unfolding Calls.type step_at
  typed_bytes = go (is_record lent)
    where
      new : Word
      new = (Rules.step (held lent) key).word

      by_answer : (a : Result Outcome Refusal) → bytes_after a new lent ≡ unless_refused (step_says a) (record_written new lent) lent
      by_answer (Ok o) = refl
      by_answer (Err x) = refl

      go : (b : Bool) → (step_if b (held lent) key lent).bytes ≡ unless_refused (of_record b (step_says (Rules.step (held lent) key).answer)) (record_written new lent) lent
      go true = by_answer (Rules.step (held lent) key).answer
      go false = refl

-- calls on bytes that are no record, and on a record that is read from them
module _ (lent : List ℕ) where
  pub no_word : None ≡ as_record lent → (s : Says) → of_record (is_record lent) s ≡ refusing no_record
  no_word e s = sym (ap (λ (o : Option Word). of_record (is_some o) s) e)

  module _ {w : Word} (e : Some w ≡ as_record lent) where
    pub said : {A : Type 0} (says : A → Says) (f : Word → A) {y : A} → y ≡ f w → says y ≡ of_record (is_record lent) (says (f (held lent)))
    said says f q = ap says q ∙ ap (λ (o : Option Word). of_record (is_some o) (says (f (or_new o)))) e

    pub shown_output : (out : List ℕ) → (Rules.show w out).output ≡ Calls.show_output lent out
    unfolding Calls.show
    shown_output out = left (Rules.show w out).answer refl ∙ ap (λ (o : Option Word). unless_refused (of_record (is_some o) (write_says (Rules.show (or_new o) out).answer)) (Rules.show (or_new o) out).output out) e
      where
        left : (r : Result ℕ Refusal) → (Rules.show w out).answer ≡ r → (Rules.show w out).output ≡ unless_refused (write_says (Rules.show w out).answer) (Rules.show w out).output out
        left (Ok n) q = sym (ap (λ (r : Result ℕ Refusal). unless_refused (write_says r) (Rules.show w out).output out) q)
        left (Err x) q = refused_show w out x (ap write_says q) ∙ sym (ap (λ (r : Result ℕ Refusal). unless_refused (write_says r) (Rules.show w out).output out) q)

-- typing and showing that is refused leaves the output
pub refused_both : (w : Word) (key : ℕ) (out : List ℕ) (x : Refusal) → (step_and_show w key out).result.answer ≡ Err x → (step_and_show w key out).output ≡ out
unfolding step_and_show
refused_both w key out x = by_step (Rules.step w key).answer (Rules.step w key).word
  where
    by_show : (o : Outcome) (new : Word) (a : Result ℕ Refusal) → (Rules.show new out).answer ≡ a → (show_or a o w new).answer ≡ Err x → (Rules.show new out).output ≡ out
    by_show o new (Ok n) p e = let z : ◌≡◌ {A = ℕ} 0 1 = cc in absurd (omega arith)
    by_show o new (Err y) p e = refused_show new out y (ap write_says p)

    by_step : (a : Result Outcome Refusal) (new : Word) → (pressed_or a w new out).result.answer ≡ Err x → (pressed_or a w new out).output ≡ out
    by_step (Ok o) new e = by_show o new (Rules.show new out).answer refl e
    by_step (Err y) new e = refl

-- a key typed into lent bytes, and the word shown
module _ (lent : List ℕ) (key : ℕ) (out : List ℕ) where
  abbrev all : StepShown
  all = (step_and_show (held lent) key out).result

  pub pressed : {a : Result (Outcome × ℕ) Refusal} → a ≡ (press_at lent key out).answer → shown_says a ≡ Calls.type_and_show lent key out
  unfolding Calls.type_and_show press_at
  pressed p = ap shown_says p ∙ go (is_record lent)
    where
      go : (b : Bool) → shown_says (press_if b (held lent) key lent out).answer ≡ of_record b (shown_says all.answer)
      go true = refl
      go false = refl

  pub pressed_bytes : (press_at lent key out).bytes ≡ Calls.type_and_show_word lent key out
  unfolding Calls.type_and_show press_at
  pressed_bytes = go (is_record lent)
    where
      by_answer : (a : Result (Outcome × ℕ) Refusal) → shown_after a all.word lent ≡ unless_refused (shown_says a) (record_written all.word lent) lent
      by_answer (Ok done) = refl
      by_answer (Err x) = refl

      go : (b : Bool) → (press_if b (held lent) key lent out).bytes ≡ unless_refused (of_record b (shown_says all.answer)) (record_written all.word lent) lent
      go true = by_answer all.answer
      go false = refl

  pub pressed_output : (press_at lent key out).output ≡ Calls.type_and_show_output lent key out
  unfolding Calls.type_and_show press_at
  pressed_output = go (is_record lent)
    where
      made : List ℕ
      made = (step_and_show (held lent) key out).output

      by_answer : (a : Result (Outcome × ℕ) Refusal) → all.answer ≡ a → made ≡ unless_refused (shown_says a) made out
      by_answer (Ok done) e = refl
      by_answer (Err x) e = refused_both (held lent) key out x e

      go : (b : Bool) → (press_if b (held lent) key lent out).output ≡ unless_refused (of_record b (shown_says all.answer)) made out
      go true = by_answer all.answer refl
      go false = refl

  -- by what became of the key: there are not as many bytes as a record's; it is refused; it is typed into a record
  pub not_long : (length lent ≡ 169 → ⊥) → Calls.type_and_show lent key out ≡ refusing no_record
  not_long h = sym (pressed (sym (ap (λ (x : ShownAt). x.answer) (PressesAt.not_long lent key out h))))

  pub refused_at : (x : Refusal) → (step_at lent key).answer ≡ Err x → Calls.type_and_show lent key out ≡ refusing x
  refused_at x e = sym (pressed (sym (ap (λ (y : ShownAt). y.answer) (PressesAt.refused_at lent key out x e))))

  pub typed_shown : is_record lent ≡ true → (s : StepShown) → s ≡ all → {y : Result (Outcome × ℕ) Refusal} → s.answer ≡ y → Calls.type_and_show lent key out ≡ shown_says y
  unfolding Calls.type_and_show
  typed_shown t s p q = ap (λ (b : Bool). of_record b (shown_says all.answer)) t ∙ ap shown_says (sym (ap (λ (x : StepShown). x.answer) p) ∙ q)

-- what commit's ruling says
abbrev pub ruling_says : Result Ruling Refusal → Says
ruling_says (Ok (Keep n)) = answered (0 ∷ [])
ruling_says (Ok Restore) = answered (1 ∷ [])
ruling_says (Err r) = refusing r

by_decision : (d : Decision) (text : List ℕ) → answered (decision_number d ∷ []) ≡ ruling_says (ruled d text)
by_decision Kept text = refl
by_decision Restored text = refl

pub committed : (mode : ℕ) (keys text : List ℕ) (a x : Result Ruling Refusal) → a ≡ ruling_of mode keys text → a ≡ x → Calls.commit mode keys text ≡ ruling_says x
unfolding Calls.commit ruling_of
committed mode keys text a x p q = go (refusal (Rules.commit_call mode keys text)) ∙ ap ruling_says (sym p ∙ q)
  where
    go : (o : Option Refusal) → commit_or o (decision (Rules.typed mode keys)) ≡ ruling_says (ruling_or o mode keys text)
    go None = by_decision (decision (Rules.typed mode keys)) text
    go (Some y) = refl

-- the speller
pub spelled : (mode : ℕ) (text out : List ℕ) (a x : Result ℕ Refusal) → a ≡ (Rules.spell mode text out).answer → a ≡ x → Calls.spell mode text out ≡ write_says x
unfolding Calls.spell
spelled mode text out a x p q = ap write_says (sym p ∙ q)

pub spelled_number : (mode : ℕ) (text out : List ℕ) {a : Result ℕ Refusal} → a ≡ (Rules.spell mode text out).answer → a ≡ number_by only_one (Calls.spell mode text out)
spelled_number mode text out {a} p = its_number a ∙ ap (number_by only_one) (sym (spelled mode text out a a p refl))
