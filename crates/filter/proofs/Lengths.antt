-- What was written lies within the output: a block's answers, the header, a last line.
use Rattle.std.specs.Prelude.{Result, Ok}
use mathlib.Core.Path.{◌≡◌, sym, ap, ◌∙◌}
use mathlib.Core.List.{List, [], ◌∷◌}
use Prim.Native.Nat.{ℕ, ◌≤◌}
use native.Mathlib.Omega.{arith}
use lib.ListN.{length}
use Rattle.rules.specs.TheWord.{at_front}
use Rattle.rules.specs.Refusals.{refusal}
use Rattle.rules.specs.WhatComesBack.{room_call}
use Rattle.output.specs.Front.{put}
use Rattle.output.proofs.Within.{in_front, written}
use Rattle.lines.specs.Programs.{answer_of, header_of}
use Rattle.lines.specs.declared.Program.{Program}
use Rattle.stream.specs.Feeding.{Feeding, fed_of, finish_or}
use Rattle.stream.specs.declared.Fed.{Fed}
use Rattle.rules.specs.declared.Refusal.{Refusal}

pub fed_in_front : (from : ℕ) (f : Feeding) (old out : List ℕ) (r : Fed) → r ≡ fed_of from f → out ≡ at_front f.text old → r.written ≤ length out
fed_in_front from f old out r e o = in_front r.written f.text old out (ap (λ (x : Fed). x.written) e) o

module _ (old out : List ℕ) (r : Result ℕ Refusal) (n : ℕ) (w : r ≡ Ok n) where
  pub header_in_front : (p : Program) → r ≡ (put (header_of p) old).answer → out ≡ (put (header_of p) old).output → n ≤ length out
  unfolding put
  header_in_front p a f = written old out r n w (refusal (room_call (header_of p) old)) (header_of p) a f

  pub last_in_front : (p : Program) (line : List ℕ) → r ≡ (finish_or p line old).answer → out ≡ (finish_or p line old).output → n ≤ length out
  unfolding put
  last_in_front p [] a f = let e : Ok n ≡ Ok 0 = sym w ∙ a in let z : n ≡ 0 = cc in omega arith
  last_in_front p (b ∷ bs) a f = written old out r n w (refusal (room_call (answer_of p (b ∷ bs)) old)) (answer_of p (b ∷ bs)) a f
