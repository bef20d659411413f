-- What show wrote lies within the buffer that was lent to it.
use Rattle.std.specs.Prelude.{Result, Ok}
use mathlib.Core.Path.{◌≡◌}
use mathlib.Core.List.{List}
use Prim.Native.Nat.{ℕ, ◌≤◌}
use lib.ListN.{length}
use Rattle.rules.specs.TheWord.{word_of}
use Rattle.rules.specs.CodePoints.{shown}
use Rattle.rules.specs.Refusals.{refusal}
use Rattle.rules.specs.WhatComesBack.{show_call, show}
use Rattle.rules.specs.declared.Word.{Word}
use Rattle.output.proofs.Within.{written}
use Rattle.rules.specs.declared.Refusal.{Refusal}

pub shown_within : (w : Word) (old out : List ℕ) (r : Result ℕ Refusal) (n : ℕ) → r ≡ Ok n → r ≡ (show w old).answer → out ≡ (show w old).output → n ≤ length out
unfolding show
shown_within w old out r n e a f = written old out r n e (refusal (show_call w old)) (shown (word_of w).state) a f
