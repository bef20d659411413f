-- A word's line, and a shown text, lie within the buffers that they were written to.
use Rattle.std.proofs.Common.{◌≡◌, ℕ, ◌≤◌, List, length, sym, ap, ◌∙◌, arith, Option, Some, None, Result, Ok, Err}
use Rattle.rules.specs.TheWord.{word_of}
use Rattle.rules.specs.CodePoints.{shown}
use Rattle.rules.specs.Refusals.{refusal}
use Rattle.rules.specs.WhatComesBack.{typed, type_call, show_call, show}
use Rattle.rules.specs.declared.Refusal.{Refusal}
use Rattle.rules.specs.declared.Word.{Word}
use Rattle.output.proofs.Within.{in_front, written}
use Rattle.replay.specs.Replays.{committed_line, done_of, word_or, word_replayed}
use Rattle.replay.specs.declared.WordDone.{WordDone}

pub shown_within : (w : Word) (old out : List ℕ) (r : Result ℕ Refusal) (n : ℕ) → r ≡ Ok n → r ≡ (show w old).answer → out ≡ (show w old).output → n ≤ length out
unfolding show
shown_within w old out r n e a f = written old out r n e (refusal (show_call w old)) (shown (word_of w).state) a f

module _ (mode : ℕ) (ks old out : List ℕ) (r : Result WordDone Refusal) (done : WordDone) (is : r ≡ Ok done) where
  unless_refused : (o : Option Refusal) → r ≡ (word_or o mode ks old).answer → out ≡ (word_or o mode ks old).line → done.bytes ≤ length out
  unless_refused None a f =
      let e : Ok done ≡ Ok (done_of (typed mode ks)) = sym is ∙ a in
      let same : done ≡ done_of (typed mode ks) = cc in
      in_front done.bytes (committed_line (typed mode ks)) old out (ap (λ (d : WordDone). d.bytes) same) f
  unless_refused (Some x) a f = let e : Ok done ≡ Err x = sym is ∙ a in let z : ◌≡◌ {A = ℕ} 0 1 = cc in absurd (omega arith)

  pub line_within : r ≡ (word_replayed mode ks old).answer → out ≡ (word_replayed mode ks old).line → done.bytes ≤ length out
  unfolding word_replayed
  line_within a f = unless_refused (refusal (type_call mode ks)) a f
