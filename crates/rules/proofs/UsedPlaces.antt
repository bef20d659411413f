-- Places of a record past its counts: two records that agree in all else get the same answers and still agree after a step, and a step leaves those places as they were.
use Rattle.std.specs.Prelude.{Option, Some, None, Ok}
use mathlib.Core.Path.{◌≡◌, refl, sym, ap, ap₂, ◌∙◌}
use mathlib.Core.Bool.{Bool}
use mathlib.Core.List.{List, [], ◌∷◌, map}
use Prim.Native.Nat.{ℕ, ◌+◌, ◌-◌, ◌≤◌}
use native.Mathlib.Nat.{le_refl}
use native.Mathlib.Omega.{arith}
use lib.ListN.{length, take, drop, get_or, length-map}
use lib.Seq.{take-take, get_or-append-add, get_or-drop}
use Rattle.rules.specs.TakingApart.{verdict}
use Rattle.rules.specs.TonePlace.{tone_place}
use Rattle.rules.specs.TheWord.{Typed, outcome_of, letter, number, word_of, at_front, holding}
use Rattle.rules.specs.KeyRoles.{key_does, type}
use Rattle.rules.specs.Decision.{decision}
use Rattle.rules.specs.CodePoints.{shown}
use Rattle.rules.specs.Refusals.{Call, TableRow, asks, table, first_row, out_of_range, refusal}
use Rattle.rules.specs.WhatComesBack.{step_call, step_or, step, write_or, show_call, show, word_call, place_or, place_answer, verdict_or, verdict_answer, decision_or, decision_answer}
use Rattle.rules.specs.declared.Word.{Word}
use Rattle.rules.specs.declared.Refusal.{Refusal}
use Rattle.rules.proofs.Range.{in_range}
use Rattle.rules.proofs.Refused.{refusal_none}
use Rattle.rules.proofs.StaysInRange.{Whole, Abreast, abreast_next, abreast_of, state_fine, next, taken, read_front}
use Rattle.rules.proofs.Records.{with_arrays}

-- the record with its used places alone
abbrev pub used : Word → Word
used w = with_arrays w (take w.count w.letters) (take w.count w.appended_by) (take w.count w.shaped_by) (take w.typed w.keys)

again : (n : ℕ) (l : List ℕ) → take n (take n l) ≡ take n l
again n l = take-take n n l (le_refl n)

-- what reads used places alone answers the same of both
range_used : (w : Word) → out_of_range (used w) ≡ out_of_range w
unfolding out_of_range
range_used w = rw (again w.typed w.keys, again w.count w.letters, again w.count w.appended_by, again w.count w.shaped_by)

word_used : (w : Word) → word_of (used w) ≡ word_of w
word_used w =
    λ i. record {
      mode = w.mode;
      state = record { letters = map letter (again w.count w.letters i); tone = w.tone; closed = w.closed };
      places = record { appended_by = again w.count w.appended_by i; shaped_by = again w.count w.shaped_by i; toned_by = w.toned_by };
      keys = again w.typed w.keys i;
      acted = w.acted;
      undone = w.undone;
      appended = w.appended;
    }

abbrev rest : List TableRow → List TableRow
rest [] = []
rest (r ∷ rs) = rs

-- a call whose record is asked about in row 8 alone
refusal_used : (w : Word) (c d : Call) → c.record? ≡ Some (used w) → d.record? ≡ Some w → rest (table c) ≡ rest (table d) → refusal c ≡ refusal d
unfolding refusal
refusal_used w c d p q e =
    ap₂ (λ (o : Option Word) (rs : List TableRow). first_row (record { number = 8; when = asks out_of_range o; returned = 0 } ∷ rs)) p e ∙
    ap (λ (b : Bool). first_row (record { number = 8; when = b; returned = 0 } ∷ rest (table d))) (range_used w) ∙
    ap (λ (o : Option Word). first_row (record { number = 8; when = asks out_of_range o; returned = 0 } ∷ rest (table d))) (sym q)

-- an answer that is made of the refusal and the word that is read
module _ {A : Type 0} (answer : Option Refusal → Word → A) (by_word : Typed → A) (same : (w : Word) → answer None w ≡ by_word (word_of w)) (refused : (x : Refusal) (w : Word) → answer (Some x) (used w) ≡ answer (Some x) w) where
  answer_used : (o : Option Refusal) (w : Word) → answer o (used w) ≡ answer o w
  answer_used None w = same (used w) ∙ ap by_word (word_used w) ∙ sym (same w)
  answer_used (Some x) w = refused x w

step_used : (w : Word) (k : ℕ) → (step (used w) k).answer ≡ (step w k).answer
unfolding step
step_used w k =
    ap (λ (o : Option Refusal). (step_or o (used w) k).answer) (refusal_used w (step_call (used w) k) (step_call w k) refl refl refl) ∙
    answer_used (λ o v. (step_or o v k).answer) (λ z. Ok (outcome_of (key_does z k))) (λ v. refl) (λ x v. refl) (refusal (step_call w k)) w

-- what a record that holds a word uses is of the word alone
held_used : (w : Word) (z : Typed) → Abreast z → used (holding w z) ≡ with_arrays (holding w z) (map number z.state.letters) z.places.appended_by z.places.shaped_by z.keys
held_used w z a =
    let n = length z.state.letters in
    λ i. with_arrays (holding w z) (read_front (map number z.state.letters) w.letters n (length-map z.state.letters number) i) (read_front z.places.appended_by w.appended_by n a.by i)
    (read_front z.places.shaped_by w.shaped_by n a.shaped_by i) (read_front z.keys w.keys (length z.keys) refl i)

used_used : (w : Word) → used (used w) ≡ used w
used_used w = λ i. with_arrays w (again w.count w.letters i) (again w.count w.appended_by i) (again w.count w.shaped_by i) (again w.typed w.keys i)

-- a record of which a step is not refused holds as many places of keys as letters, and so does it after the step
abreast_after : (w : Word) (k : ℕ) → Whole w → refusal (step_call w k) ≡ None → Abreast (type (word_of w) k)
abreast_after w k whole e =
    let t = taken w k ((refusal_none (step_call w k)).0 e) in
    let r = in_range w t.range in
    abreast_next (word_of w) k (next (word_of w) k t.key (state_fine w r)) (abreast_of w whole r.count)

next_used : (w : Word) (k : ℕ) → Whole w → used (step (used w) k).word ≡ used (step w k).word
unfolding step
next_used w k whole = ap (λ (o : Option Refusal). used (step_or o (used w) k).word) (refusal_used w (step_call (used w) k) (step_call w k) refl refl refl) ∙ go (refusal (step_call w k)) refl
  where
    go : (o : Option Refusal) → refusal (step_call w k) ≡ o → used (step_or o (used w) k).word ≡ used (step_or o w k).word
    go (Some x) e = used_used w
    go None e =
        let a = abreast_after w k whole e in
        ap (λ (z : Typed). used (holding (used w) (type z k))) (word_used w) ∙ held_used (used w) (type (word_of w) k) a ∙ sym (held_used w (type (word_of w) k) a)

show_used : (w : Word) (out : List ℕ) → show (used w) out ≡ show w out
unfolding show
show_used w out =
    ap₂ (λ (o : Option Refusal) (z : Typed). write_or o (shown z.state) out)
    (refusal_used w (show_call (used w) out) (show_call w out) refl refl
    (ap (λ (z : Typed). rest (table (record { record? = None; mode? = None; keys? = None; text? = None; room? = Some (record { needed = length (shown z.state); there = length out }) }))) (word_used w)))
    (word_used w)

place_used : (w : Word) → place_answer (used w) ≡ place_answer w
unfolding place_answer
place_used w =
    ap (λ (o : Option Refusal). place_or o (used w)) (refusal_used w (word_call (used w)) (word_call w) refl refl refl) ∙
    answer_used place_or (λ z. Ok (tone_place z.state.letters z.state.tone)) (λ v. refl) (λ x v. refl) (refusal (word_call w)) w

verdict_used : (w : Word) → verdict_answer (used w) ≡ verdict_answer w
unfolding verdict_answer
verdict_used w =
    ap (λ (o : Option Refusal). verdict_or o (used w)) (refusal_used w (word_call (used w)) (word_call w) refl refl refl) ∙
    answer_used verdict_or (λ z. Ok (verdict z.state.letters z.state.tone)) (λ v. refl) (λ x v. refl) (refusal (word_call w)) w

decision_used : (w : Word) → decision_answer (used w) ≡ decision_answer w
unfolding decision_answer
decision_used w =
    ap (λ (o : Option Refusal). decision_or o (used w)) (refusal_used w (word_call (used w)) (word_call w) refl refl refl) ∙
    answer_used decision_or (λ z. Ok (decision z)) (λ v. refl) (λ x v. refl) (refusal (word_call w)) w

-- two records that agree in counts, marks and used places
module _ (v w : Word) (agree : used v ≡ used w) where
  pub same_step : (k : ℕ) → (step v k).answer ≡ (step w k).answer
  same_step k = sym (step_used v k) ∙ ap (λ (x : Word). (step x k).answer) agree ∙ step_used w k

  pub same_word : (k : ℕ) → Whole v → Whole w → used (step v k).word ≡ used (step w k).word
  same_word k p q = sym (next_used v k p) ∙ ap (λ (x : Word). used (step x k).word) agree ∙ next_used w k q

  pub same_show : (out : List ℕ) → show v out ≡ show w out
  same_show out = sym (show_used v out) ∙ ap (λ (x : Word). show x out) agree ∙ show_used w out

  pub same_place : place_answer v ≡ place_answer w
  same_place = sym (place_used v) ∙ ap place_answer agree ∙ place_used w

  pub same_verdict : verdict_answer v ≡ verdict_answer w
  same_verdict = sym (verdict_used v) ∙ ap verdict_answer agree ∙ verdict_used w

  pub same_decision : decision_answer v ≡ decision_answer w
  same_decision = sym (decision_used v) ∙ ap decision_answer agree ∙ decision_used w

-- a place that the new word does not use is as it was
unused : (new old : List ℕ) (i d : ℕ) → length new ≤ i → get_or (at_front new old) i d ≡ get_or old i d
unused new old i d h =
    let e : i ≡ length new + (i - length new) = omega arith in
    ap (λ (j : ℕ). get_or (at_front new old) j d) e ∙ get_or-append-add new (drop (length new) old) (i - length new) d ∙ get_or-drop (length new) old (i - length new) d ∙
    ap (λ (j : ℕ). get_or old j d) (sym e)

pub letters_past : (w : Word) (k i d : ℕ) → (step w k).word.count ≤ i → get_or (step w k).word.letters i d ≡ get_or w.letters i d
unfolding step
letters_past w k i d = go (refusal (step_call w k))
  where
    go : (o : Option Refusal) → (step_or o w k).word.count ≤ i → get_or (step_or o w k).word.letters i d ≡ get_or w.letters i d
    go None h = unused (map number (type (word_of w) k).state.letters) w.letters i d (simp length-map h)
    go (Some x) h = refl

pub keys_past : (w : Word) (k i d : ℕ) → (step w k).word.typed ≤ i → get_or (step w k).word.keys i d ≡ get_or w.keys i d
unfolding step
keys_past w k i d = go (refusal (step_call w k))
  where
    go : (o : Option Refusal) → (step_or o w k).word.typed ≤ i → get_or (step_or o w k).word.keys i d ≡ get_or w.keys i d
    go None h = unused (type (word_of w) k).keys w.keys i d h
    go (Some x) h = refl

-- and so is a place of a key past the letters
module _ (w : Word) (k i d : ℕ) (whole : Whole w) where
  pub by_past : (step w k).word.count ≤ i → get_or (step w k).word.appended_by i d ≡ get_or w.appended_by i d
  unfolding step
  by_past = go (refusal (step_call w k)) refl
    where
      go : (o : Option Refusal) → refusal (step_call w k) ≡ o → (step_or o w k).word.count ≤ i → get_or (step_or o w k).word.appended_by i d ≡ get_or w.appended_by i d
      go None e h = unused (type (word_of w) k).places.appended_by w.appended_by i d (omega (arith, h, (abreast_after w k whole e).by))
      go (Some x) e h = refl

  pub shaped_past : (step w k).word.count ≤ i → get_or (step w k).word.shaped_by i d ≡ get_or w.shaped_by i d
  unfolding step
  shaped_past = go (refusal (step_call w k)) refl
    where
      go : (o : Option Refusal) → refusal (step_call w k) ≡ o → (step_or o w k).word.count ≤ i → get_or (step_or o w k).word.shaped_by i d ≡ get_or w.shaped_by i d
      go None e h = unused (type (word_of w) k).places.shaped_by w.shaped_by i d (omega (arith, h, (abreast_after w k whole e).shaped_by))
      go (Some x) e h = refl
