-- What was written lies within the output.
use Rattle.std.specs.Prelude.{Option, Some, None, Result, Ok, Err}
use mathlib.Core.Path.{◌≡◌, sym, ap, ◌∙◌}
use mathlib.Core.List.{List}
use Prim.Native.Nat.{ℕ, ◌≤◌}
use native.Mathlib.Omega.{arith}
use lib.ListN.{length, drop, length-append}
use Rattle.rules.specs.TheWord.{at_front}
use Rattle.rules.specs.WhatComesBack.{write_or}
use Rattle.rules.specs.declared.Refusal.{Refusal}

pub in_front : (n : ℕ) (text old out : List ℕ) → n ≡ length text → out ≡ at_front text old → n ≤ length out
in_front n text old out e f = omega (arith, e, ap length f, length-append text (drop (length text) old))

module _ (old out : List ℕ) (r : Result ℕ Refusal) (n : ℕ) (w : r ≡ Ok n) where
  pub written : (o : Option Refusal) (text : List ℕ) → r ≡ (write_or o text old).answer → out ≡ (write_or o text old).output → n ≤ length out
  written None text a f = let e : Ok n ≡ Ok (length text) = sym w ∙ a in in_front n text old out (cc) f
  written (Some x) text a f = let e : Ok n ≡ Err x = sym w ∙ a in let z : ◌≡◌ {A = ℕ} 0 1 = cc in absurd (omega arith)
