-- Tallies one behind the other, and what a press more makes of the outcome.
use mathlib.Core.Path.{◌≡◌, refl, sym, ap, ◌∙◌}
use mathlib.Core.Bool.{Bool, true, false}
use mathlib.Core.List.{List, [], ◌∷◌, ◌++◌, append_assoc, append-nil}
use Prim.Native.Nat.{ℕ, ◌+◌}
use native.Mathlib.Omega.{arith}
use lib.ListN.{length-append}
use Rattle.rules.specs.WhatComesBack.{typed}
use Rattle.recording.specs.Recordings.{is_space, Reading, broken, presses, before}
use Rattle.recording.specs.declared.KeyPress.{KeyPress}
use Rattle.replay.specs.Replays.{last_word, words_from, Tally, of_word, nothing, together, of_words, milliseconds, summary, done_of}
use Rattle.replay.specs.Passes.{total_of, finished, outcome, with_done, some_keys, total_if}
use Rattle.replay.specs.declared.Found.{Found}

tallied : {a a' : List ℕ} {b b' c c' d d' e e' f f' g g' : ℕ} → a ≡ a' → b ≡ b' → c ≡ c' → d ≡ d' → e ≡ e' → f ≡ f' → g ≡ g' →
    ◌≡◌ {A = Tally} (record { text = a; words = b; kept = c; restored = d; acted = e; undone = f; appended = g }) (record { text = a'; words = b'; kept = c'; restored = d'; acted = e'; undone = f'; appended = g' })
tallied p q r s t u v = λ i. record { text = p i; words = q i; kept = r i; restored = s i; acted = t i; undone = u i; appended = v i }

pub and_nothing : (t : Tally) → together t nothing ≡ t
and_nothing t = tallied (append-nil t.text) (omega arith) (omega arith) (omega arith) (omega arith) (omega arith) (omega arith)

pub nothing_and : (t : Tally) → together nothing t ≡ t
nothing_and t = tallied refl (omega arith) (omega arith) (omega arith) (omega arith) (omega arith) (omega arith)

pub one_by_one : (t u v : Tally) → together (together t u) v ≡ together t (together u v)
one_by_one t u v = tallied (append_assoc t.text u.text v.text) (omega arith) (omega arith) (omega arith) (omega arith) (omega arith) (omega arith)

-- the numbers of a word more
pub with_one : (t : Tally) (m : ℕ) (ks : List ℕ) → with_done (total_of t) (done_of (typed m ks)) ≡ total_of (together t (of_word (typed m ks)))
with_one t m ks =
    let u = together t (of_word (typed m ks)) in
    let long = sym (length-append t.text (of_word (typed m ks)).text) in
    ap (λ (n : ℕ). let f : Found = record { written = n; summary = summary u 0 } in f) long

-- and of the last
pub with_last : (t : Tally) (m : ℕ) (ks : List ℕ) → total_if (some_keys ks) m ks (total_of t) ≡ total_of (together t (of_words m (last_word ks)))
with_last t m [] = sym (ap total_of (and_nothing t))
with_last t m (k ∷ ks) = with_one t m (k ∷ ks) ∙ ap (λ (u : Tally). total_of (together t u)) (sym (and_nothing (of_word (typed m (k ∷ ks)))))

-- what a press more makes of the outcome
module _ (m : ℕ) (t : Tally) (ks : List ℕ) (ms : ℕ) (x : KeyPress) where
  pub at_space : is_space x.key ≡ true → (r : Reading) → outcome m (together t (of_word (typed m ks))) [] (ms + x.milliseconds) r ≡ outcome m t ks ms (before x r)
  at_space e (broken r) = refl
  at_space e (presses xs) =
      let time : ms + x.milliseconds + milliseconds xs ≡ ms + (x.milliseconds + milliseconds xs) = omega arith in
      (λ i. finished (one_by_one t (of_word (typed m ks)) (of_words m (words_from [] xs)) i) (time i)) ∙
      ap (λ (b : Bool). finished (together t (of_words m (elim b [ true ↦ ks ∷ words_from [] xs | false ↦ words_from (ks ++ (x.key ∷ [])) xs ]))) (ms + (x.milliseconds + milliseconds xs))) (sym e)

  pub at_key : is_space x.key ≡ false → (r : Reading) → outcome m t (ks ++ (x.key ∷ [])) (ms + x.milliseconds) r ≡ outcome m t ks ms (before x r)
  at_key e (broken r) = refl
  at_key e (presses xs) =
      let time : ms + x.milliseconds + milliseconds xs ≡ ms + (x.milliseconds + milliseconds xs) = omega arith in
      (λ i. finished (together t (of_words m (words_from (ks ++ (x.key ∷ [])) xs))) (time i)) ∙
      ap (λ (b : Bool). finished (together t (of_words m (elim b [ true ↦ ks ∷ words_from [] xs | false ↦ words_from (ks ++ (x.key ∷ [])) xs ]))) (ms + (x.milliseconds + milliseconds xs))) (sym e)
