-- Two records in range that hold the same letters, tone, mark and counts show the same text and get the same place, verdict and decision.
use Rattle.std.specs.Prelude.{Ok, Err}
use mathlib.Core.Path.{◌≡◌, sym, ap, ◌∙◌}
use mathlib.Core.Bool.{false}
use mathlib.Core.List.{List}
use Prim.Native.Nat.{ℕ, ◌≤◌, ◌<◌}
use borrow.Author.Tests.{lt-ltb, le-ltb}
use lib.ListN.{length}
use Rattle.rules.specs.TheWord.{State, word_of, at_front}
use Rattle.rules.specs.TakingApart.{verdict}
use Rattle.rules.specs.TonePlace.{tone_place}
use Rattle.rules.specs.CodePoints.{shown}
use Rattle.rules.specs.Decision.{decision}
use Rattle.rules.specs.Refusals.{out_of_range, refusal}
use Rattle.rules.specs.WhatComesBack.{show, place_answer, verdict_answer, decision_answer}
use Rattle.rules.specs.declared.Word.{Word}
use Rattle.rules.proofs.NotRefused.{finds, judges, decides}
use Rattle.output.specs.Front.{put}

-- a record in range shows its state
module _ (w : Word) (range : out_of_range w ≡ false) where
  shows : (out : List ℕ) → show w out ≡ put (shown (word_of w).state) out
  unfolding show put refusal
  shows out = rw range

  shows_state : (s : State) → (word_of w).state ≡ s → (out : List ℕ) → show w out ≡ put (shown s) out
  shows_state s e out = shows out ∙ ap (λ (z : State). put (shown z) out) e

  -- with room for its text it is written; without, refused
  pub writes_state : (s : State) → (word_of w).state ≡ s → (out : List ℕ) → length (shown s) ≤ length out → show w out ≡ record { answer = Ok (length (shown s)); output = at_front (shown s) out }
  unfolding put refusal
  writes_state s e out room = shows_state s e out ∙ rw (le-ltb (length out) (length (shown s)) room)

  pub no_room_for : (s : State) → (word_of w).state ≡ s → (out : List ℕ) → length out < length (shown s) → show w out ≡ record { answer = Err (record { number = 4; value = length (shown s) }); output = out }
  unfolding put refusal
  no_room_for s e out short = shows_state s e out ∙ rw (lt-ltb (length out) (length (shown s)) short)

module _ (v w : Word) (rv : out_of_range v ≡ false) (rw : out_of_range w ≡ false) (same : (word_of v).state ≡ (word_of w).state) where
  pub same_text : (out : List ℕ) → show v out ≡ show w out
  same_text out = shows v rv out ∙ ap (λ (s : State). put (shown s) out) same ∙ sym (shows w rw out)

  pub same_place : place_answer v ≡ place_answer w
  same_place = finds v rv ∙ ap (λ (s : State). Ok (tone_place s.letters s.tone)) same ∙ sym (finds w rw)

  pub same_verdict : verdict_answer v ≡ verdict_answer w
  same_verdict = judges v rv ∙ ap (λ (s : State). Ok (verdict s.letters s.tone)) same ∙ sym (judges w rw)

  pub same_decision : decision (word_of v) ≡ decision (word_of w) → decision_answer v ≡ decision_answer w
  same_decision d = decides v rv ∙ ap (λ x. Ok x) d ∙ sym (decides w rw)
