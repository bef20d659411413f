-- The answer by its one test: no room is refusal 4 with the bytes needed and the output as it was; else the text stands at the front. It is refused exactly then.
use Rattle.std.specs.Prelude.{Ok, Err}
use mathlib.Core.Path.{◌≡◌, ap}
use mathlib.Core.List.{List, ◌++◌}
use mathlib.Core.Logic.{◌↔◌}
use Prim.Native.Nat.{ℕ, ◌<◌, ◌≤◌}
use lib.ListN.{length, take, drop}
use lib.Seq.{take-length}
use borrow.Author.Tests.{lt-ltb, le-ltb}
use Rattle.rules.specs.TheWord.{at_front}
use Rattle.rules.specs.Refusals.{refusal, table, FirstOf}
use Rattle.rules.specs.AnswersInNumbers.{refusing, write_says}
use Rattle.rules.specs.declared.Refusal.{Refusal}
use Rattle.rules.proofs.Refused.{write_exactly, write_refused}
use Rattle.rules.specs.WhatComesBack.{room_call}
use Rattle.output.specs.Front.{put}

module _ (text out : List ℕ) where
  pub no_room : length out < length text → put text out ≡ record { answer = Err (record { number = 4; value = length text }); output = out }
  unfolding put refusal
  no_room h = simp (lt-ltb (length out) (length text) h)

  pub has_room : length text ≤ length out → put text out ≡ record { answer = Ok (length text); output = at_front text out }
  unfolding put refusal
  has_room h = simp (le-ltb (length out) (length text) h)

  pub all_of_it : take (length text) text ++ drop (length text) out ≡ at_front text out
  all_of_it = ap (λ (l : List ℕ). l ++ drop (length text) out) (take-length text)

  -- refused exactly as the table says, and the output is then as it was
  pub put_exactly : (x : Refusal) → write_says (put text out).answer ≡ refusing x ↔ FirstOf (table (room_call text out)) x
  unfolding put
  put_exactly x = write_exactly (room_call text out) text out x

  pub refused_put : (x : Refusal) → write_says (put text out).answer ≡ refusing x → (put text out).output ≡ out
  unfolding put
  refused_put x e = write_refused (room_call text out) text out x e
