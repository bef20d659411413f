-- A replay by what a pass over the whole recording finds.
use Rattle.std.specs.Prelude.{Result, Ok, Err}
use mathlib.Core.Path.{◌≡◌, refl, sym, ap, ◌∙◌}
use mathlib.Core.List.{List, [], ◌∷◌, ◌++◌}
use Prim.Native.Nat.{ℕ, ◌+◌, ◌≤◌, ◌<◌}
use native.Mathlib.Omega.{arith}
use lib.ListN.{length}
use Rattle.rules.specs.WhatComesBack.{Written}
use Rattle.rules.specs.declared.Refusal.{Refusal}
use Rattle.output.specs.Front.{put}
use Rattle.output.proofs.Rooms.{no_room, has_room}
use Rattle.recording.specs.Recordings.{Reading, broken, presses, read_from, in_mode, recorded_after, recorded, begin}
use Rattle.recording.specs.declared.Progress.{Progress}
use Rattle.recording.specs.declared.Begun.{Begun}
use Rattle.recording.proofs.Openings.{opened}
use Rattle.replay.specs.Replays.{nothing, of_words, words_from, milliseconds, summary, Replayed, answered_by, refused_replay, of_recorded, replayed}
use Rattle.replay.specs.Passes.{Outcome, stopped, finished, outcome, throughout, passage_of, LinesPut}
use Rattle.replay.specs.declared.Found.{Found}
use Rattle.replay.specs.declared.ReplayAnswer.{ReplayAnswer}
use Rattle.replay.proofs.Tallies.{nothing_and}

abbrev of_outcome : Outcome → List ℕ → Replayed
of_outcome (stopped r) out = refused_replay r out
of_outcome (finished t ms) out = answered_by (put t.text out) (summary t ms)

pub refused_begin : (s out : List ℕ) (r : Refusal) → begin s ≡ Err r → replayed s out ≡ refused_replay r out
unfolding replayed recorded
refused_begin s out r e = ap (λ (b : Result Begun Refusal). of_recorded (recorded_after b s) out) e

module _ (s out : List ℕ) (b : Begun) (e : begin s ≡ Ok b) where
  by_reading : (r : Reading) → of_recorded (in_mode b.progress.mode r) out ≡ of_outcome (outcome b.progress.mode nothing [] b.progress.milliseconds r) out
  by_reading (broken r) = refl
  by_reading (presses xs) =
      let none = ap (λ (p : Progress). p.milliseconds) (opened s b e).none_yet_law in
      let time : milliseconds xs ≡ b.progress.milliseconds + milliseconds xs = omega (arith, none) in
      λ i. answered_by (put (sym (nothing_and (of_words b.progress.mode (words_from [] xs))) i).text out) (summary (sym (nothing_and (of_words b.progress.mode (words_from [] xs))) i) (time i))

  by_outcome : replayed s out ≡ of_outcome (throughout s b) out
  unfolding replayed recorded
  by_outcome = ap (λ (a : Result Begun Refusal). of_recorded (recorded_after a s) out) e ∙ by_reading (read_from (length s) s b.at b.progress)

  -- a pass that is broken off, and one that found so many bytes
  was_stopped : (r : Refusal) (o : Outcome) → passage_of o ≡ Err r → o ≡ stopped r
  was_stopped r (stopped q) f = let g : q ≡ r = cc in ap stopped g
  was_stopped r (finished t ms) f = let z : ◌≡◌ {A = ℕ} 0 1 = cc in absurd (omega arith)

  pub is_broken : (r : Refusal) → passage_of (throughout s b) ≡ Err r → replayed s out ≡ refused_replay r out
  is_broken r f = by_outcome ∙ ap (λ (o : Outcome). of_outcome o out) (was_stopped r (throughout s b) f)

  module _ (f : Found) where
    found_nothing : {A : Type 0} {r : Refusal} → ◌≡◌ {A = Result Found Refusal} (Err r) (Ok f) → A
    found_nothing e = let z : ◌≡◌ {A = ℕ} 0 1 = cc in absurd (omega arith)

    found_all : {g : Found} → ◌≡◌ {A = Result Found Refusal} (Ok g) (Ok f) → g ≡ f
    found_all e = cc

    short : (o : Outcome) → passage_of o ≡ Ok f → length out < f.written → of_outcome o out ≡ refused_replay (record { number = 4; value = f.written }) out
    short (stopped r) p h = found_nothing p
    short (finished t ms) p h =
        let n = ap (λ (g : Found). g.written) (found_all p) in
        ap (λ (w : Written). answered_by w (summary t ms)) (no_room t.text out (omega (arith, n, h))) ∙ ap (λ (k : ℕ). refused_replay (record { number = 4; value = k }) out) n

    pub too_short : passage_of (throughout s b) ≡ Ok f → length out < f.written → replayed s out ≡ refused_replay (record { number = 4; value = f.written }) out
    too_short p h = by_outcome ∙ short (throughout s b) p h

    abbrev answered : ReplayAnswer
    answered = record { answer = Ok f.written; summary = f.summary }

    long : (o : Outcome) → passage_of o ≡ Ok f → f.written ≤ length out → {after : List ℕ} → LinesPut o out after → (answered ≡ (of_outcome o out).result) × (after ≡ (of_outcome o out).output)
    long (stopped r) p h l = found_nothing p
    long (finished t ms) p h l =
        let d = found_all p in
        let fits : length t.text ≤ length out = omega (arith, ap (λ (g : Found). g.written) d, h) in
        let e = ap (λ (w : Written). answered_by w (summary t ms)) (has_room t.text out fits) in
        ((λ i. record { answer = Ok (sym d i).written; summary = (sym d i).summary }) ∙ sym (ap (λ (r : Replayed). r.result) e), l fits ∙ sym (ap (λ (r : Replayed). r.output) e))

    pub all_there : passage_of (throughout s b) ≡ Ok f → f.written ≤ length out → {after : List ℕ} → LinesPut (throughout s b) out after → (answered ≡ (replayed s out).result) × (after ≡ (replayed s out).output)
    all_there p h l =
        let q = long (throughout s b) p h l in
        (q.0 ∙ sym (ap (λ (r : Replayed). r.result) by_outcome), q.1 ∙ sym (ap (λ (r : Replayed). r.output) by_outcome))

-- an empty part in front
pub none_in_front : (p out : List ℕ) → length p ≡ 0 → p ++ out ≡ out
none_in_front [] out e = refl
none_in_front (b ∷ p) out e = absurd (omega arith)
