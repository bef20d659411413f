-- A key typed and the word shown, by the table: of a whole record, what `step_and_show` gives is refused by the first row that holds of one call with a record, a key and an output, and else done.
use Rattle.std.specs.Prelude.{Option, Some, None, Result, Ok, Err}
use mathlib.Core.Path.{◌≡◌, refl, sym, ap, ap₂, ◌∙◌}
use mathlib.Core.Bool.{Bool, true, false}
use mathlib.Core.List.{List, [], ◌∷◌}
use Prim.Native.Nat.{ℕ}
use native.Mathlib.Omega.{arith}
use lib.Dec.{ltb}
use lib.ListN.{length}
use Rattle.rules.specs.TheWord.{most_keys, State, Typed, word_of, at_front, holding, outcome_of}
use Rattle.rules.specs.KeyRoles.{key_does, type}
use Rattle.rules.specs.CodePoints.{shown}
use Rattle.rules.specs.Refusals.{Keys, too_many_keys, not_all_keys, place_of_byte, out_of_range, refusal}
use Rattle.rules.specs.WhatComesBack as Rules
use Rattle.rules.specs.WhatComesBack.{step_call, write_or, step, show, Written}
use Rattle.rules.specs.declared.Word.{Word}
use Rattle.rules.specs.declared.Refusal.{Refusal}
use Rattle.rules.specs.declared.Step.{Step}
use Rattle.rules.proofs.Tests.{is_false}
use Rattle.rules.proofs.Range.{in_range}
use Rattle.rules.proofs.Records.{state_held}
use Rattle.rules.proofs.Refused.{refusal_none}
use Rattle.rules.proofs.StaysInRange.{Whole, state_fine, next, taken, step_in_range}
use Rattle.press.specs.StepAndShow.{Shown, show_or, pressed_or, step_and_show}
use Rattle.promises.specs.Box.{press_call}
use Rattle.rules.specs.declared.Outcome.{Outcome}

-- the rows of a step, and one row more
abbrev rows : (a b c : Bool) (p q r : Refusal) → Option Refusal → Option Refusal
rows a b c p q r more = elim a [ true ↦ Some p | false ↦ elim b [ true ↦ Some q | false ↦ elim c [ true ↦ Some r | false ↦ more ] ] ]

still_refused : (a b c : Bool) (p q r x : Refusal) (more : Option Refusal) → rows a b c p q r None ≡ Some x → rows a b c p q r more ≡ Some x
still_refused true b c p q r x more e = e
still_refused false true c p q r x more e = e
still_refused false false true p q r x more e = e
still_refused false false false p q r x more e = let z : ◌≡◌ {A = ℕ} 0 1 = cc in absurd (omega arith)

then_more : (a b c : Bool) (p q r : Refusal) (more : Option Refusal) → rows a b c p q r None ≡ None → rows a b c p q r more ≡ more
then_more true b c p q r more e = let z : ◌≡◌ {A = ℕ} 0 1 = cc in absurd (omega arith)
then_more false true c p q r more e = let z : ◌≡◌ {A = ℕ} 0 1 = cc in absurd (omega arith)
then_more false false true p q r more e = let z : ◌≡◌ {A = ℕ} 0 1 = cc in absurd (omega arith)
then_more false false false p q r more e = refl

module _ (w : Word) (k : ℕ) (out : List ℕ) where
  abbrev after : Typed
  after = type (word_of w) k

  abbrev text : List ℕ
  text = shown after.state

  abbrev pub pressed_by : Option Refusal → Shown
  pressed_by None = record { result = record { answer = Ok (outcome_of (key_does (word_of w) k), length text); word = holding w after }; output = at_front text out }
  pressed_by (Some x) = record { result = record { answer = Err x; word = w }; output = out }

  abbrev no_room : Option Refusal
  no_room = elim (ltb (length out) (length text)) [ true ↦ Some (record { number = 4; value = length text }) | false ↦ None ]

  abbrev handed : Keys
  handed = record { mode = w.mode; already = w.typed; bytes = k ∷ [] }

  press_refused : (x : Refusal) → refusal (step_call w k) ≡ Some x → refusal (press_call w k out) ≡ Some x
  unfolding refusal
  press_refused x e =
      still_refused (out_of_range w) (too_many_keys handed) (not_all_keys handed) (record { number = 8; value = 0 }) (record { number = 2; value = most_keys }) (record { number = 3; value = place_of_byte handed }) x no_room e

  press_room : refusal (step_call w k) ≡ None → refusal (press_call w k out) ≡ no_room
  unfolding refusal
  press_room e =
      then_more (out_of_range w) (too_many_keys handed) (not_all_keys handed) (record { number = 8; value = 0 }) (record { number = 2; value = most_keys }) (record { number = 3; value = place_of_byte handed }) no_room e

  shows : (v : Word) → out_of_range v ≡ false → (word_of v).state ≡ after.state → show v out ≡ write_or no_room text out
  unfolding show refusal
  shows v range e = rw range (ap (λ (s : State). write_or (elim (ltb (length out) (length (shown s))) [ true ↦ Some (record { number = 4; value = length (shown s) }) | false ↦ None ]) (shown s) out) e)

  stepped : (o : Option Refusal) → refusal (step_call w k) ≡ o → step w k ≡ Rules.step_or o w k
  unfolding step
  stepped o e = ap (λ (p : Option Refusal). Rules.step_or p w k) e

  by_step : (s : Step) → step w k ≡ s → step_and_show w k out ≡ pressed_or s.answer w s.word out
  unfolding step_and_show
  by_step s e = ap₂ (λ (x : Result Outcome Refusal) (y : Word). pressed_or x w y out) (ap (λ (x : Step). x.answer) e) (ap (λ (x : Step). x.word) e)

  put : (o : Option Refusal) →
      (let s = write_or o text out in record { result = show_or s.answer (outcome_of (key_does (word_of w) k)) w (holding w after); output = s.output }) ≡ pressed_by o
  put None = refl
  put (Some x) = refl

  pub pressed : Whole w → step_and_show w k out ≡ pressed_by (refusal (press_call w k out))
  pressed whole = go (refusal (step_call w k)) refl
    where
      go : (o : Option Refusal) → refusal (step_call w k) ≡ o → step_and_show w k out ≡ pressed_by (refusal (press_call w k out))
      go (Some x) e = by_step (Rules.step_or (Some x) w k) (stepped (Some x) e) ∙ sym (ap pressed_by (press_refused x e))
      go None e =
          let rows = (refusal_none (step_call w k)).0 e in
          let a = taken w k rows in
          let s = stepped None e in
          let new_range : out_of_range (holding w after) ≡ false = ap (λ (x : Step). out_of_range x.word) (sym s) ∙ is_false (out_of_range (step w k).word) (step_in_range w k whole a.range).0 in
          let fine = (next (word_of w) k a.key (state_fine w (in_range w a.range))).fine.letters in
          let state = state_held w after fine in
          by_step (Rules.step_or None w k) s ∙
          ap (λ (x : Written). record { result = show_or x.answer (outcome_of (key_does (word_of w) k)) w (holding w after); output = x.output }) (shows (holding w after) new_range state) ∙
          put no_room ∙ sym (ap pressed_by (press_room e))
