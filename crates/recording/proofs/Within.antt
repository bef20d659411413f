-- The recording that was written lies within the output.
use Rattle.std.specs.Prelude.{Result, Ok, Err, ⊤}
use mathlib.Core.Path.{◌≡◌, sym, ◌∙◌}
use mathlib.Core.Bool.{Bool, true, false}
use mathlib.Core.List.{List, map}
use Prim.Native.Nat.{ℕ, ◌≤◌}
use native.Mathlib.Omega.{arith}
use lib.ListN.{length}
use Rattle.rules.specs.Refusals.{refusal, wrong_mode}
use Rattle.rules.specs.WhatComesBack.{room_call}
use Rattle.rules.specs.declared.Refusal.{Refusal}
use Rattle.output.specs.Front.{put}
use Rattle.output.proofs.Within.{written}
use Rattle.recording.specs.Recordings.{none_yet, refused_for}
use Rattle.recording.specs.Drills.{press_in, drill_bytes, checked_from, written_after, written_if, written_drill}
use Rattle.recording.specs.declared.KeyPress.{KeyPress}

module _ (old out : List ℕ) (r : Result ℕ Refusal) (n : ℕ) (w : r ≡ Ok n) where
  none_refused : (x : Refusal) → r ≡ Err x → n ≤ length out
  none_refused x a = let e : Ok n ≡ Err x = sym w ∙ a in let z : ◌≡◌ {A = ℕ} 0 1 = cc in absurd (omega arith)

  after_check : (c : Result ⊤ Refusal) (mode : ℕ) (xs : List KeyPress) → r ≡ (written_after c mode xs old).answer → out ≡ (written_after c mode xs old).output → n ≤ length out
  unfolding put
  after_check (Err x) mode xs a f = none_refused x a
  after_check (Ok tt) mode xs a f = written old out r n w (refusal (room_call (drill_bytes mode xs) old)) (drill_bytes mode xs) a f

  by_mode : (b : Bool) (mode : ℕ) (xs : List KeyPress) → r ≡ (written_if b mode xs old).answer → out ≡ (written_if b mode xs old).output → n ≤ length out
  by_mode true mode xs a f = none_refused (refused_for 1 0) a
  by_mode false mode xs a f = after_check (checked_from (none_yet mode) 0 xs) mode xs a f

  pub drill_in_front : (mode : ℕ) (ns : List ℕ) → r ≡ (written_drill mode ns old).answer → out ≡ (written_drill mode ns old).output → n ≤ length out
  unfolding written_drill
  drill_in_front mode ns a f = by_mode (wrong_mode mode) mode (map press_in ns) a f
