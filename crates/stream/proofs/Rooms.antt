-- Room for the longest answer and for 12 bytes more a byte of a block is room for all its answers: then the whole block is taken.
use mathlib.Core.Path.{◌≡◌, refl}
use mathlib.Core.Bool.{Bool, true, false}
use mathlib.Core.List.{List, [], ◌∷◌}
use Prim.Native.Nat.{ℕ, ◌+◌, ◌*◌, ◌-◌, ◌≤◌, min}
use native.Mathlib.Omega.{arith}
use borrow.Author.Tests.{le-leb}
use lib.Dec.{eqb, leb, ltb}
use lib.ListN.{length, length-take, length-set}
use Rattle.rules.specs.Drill.{newline}
use Rattle.lines.specs.Appending.{most_in_line, most_a_byte}
use Rattle.lines.proofs.Fits.{answer_fits, answer_by_the_byte}
use Rattle.stream.specs.Feeding.{most_kept, line_of, answer_now, kept_if, kept, ByteFed, byte_if, byte_fed, stopped, after, Feeding, feeding, room_for}
use Rattle.stream.specs.declared.Begun.{Begun}

-- what the line that has begun may need, without the newline that is still to come
abbrev owed : Begun → ℕ
owed s = min most_in_line (most_a_byte * length (line_of s))

kept_owed : (s : Begun) (b : ℕ) → owed (kept s b) ≤ owed s + most_a_byte
unfolding kept
kept_owed s b = go (ltb s.length most_kept)
  where
    go : (c : Bool) → owed (kept_if c s b) ≤ owed s + most_a_byte
    go true = simp (length-take, length-set) (omega arith)
    go false = omega arith

-- one byte, with room for what is owed and for one byte more: it is taken, and what it writes and what is owed then are no more than that
record Paid (s : Begun) (f : ByteFed) : Type 0 where
  taken : f.stuck ≡ false
  enough : length f.text + owed f.state ≤ owed s + most_a_byte

paid : (s : Begun) (b room : ℕ) → owed s + most_a_byte ≤ room → Paid s (byte_fed s b room)
unfolding byte_fed
paid s b room h = go (eqb b newline) (leb (length (answer_now s)) room) (le-leb (length (answer_now s)) room (omega (arith, answer)))
  where
    answer : length (answer_now s) ≤ owed s + most_a_byte
    answer = omega (arith, answer_fits s.program (line_of s), answer_by_the_byte s.program (line_of s))

    go : (e f : Bool) → f ≡ true → Paid s (byte_if e f s b)
    go false f d = record { taken = refl; enough = omega (arith, kept_owed s b) }
    go true true d = record { taken = refl; enough = omega (arith, answer) }
    go true false d = let z : ◌≡◌ {A = ℕ} 0 1 = cc in absurd (omega arith)

all_paid : (s : Begun) (bytes : List ℕ) (room : ℕ) → owed s + most_a_byte * length bytes ≤ room → (feeding s bytes room).taken ≡ length bytes
all_paid s [] room h = refl
all_paid s (b ∷ bs) room h =
    let f = byte_fed s b room in
    let p = paid s b room (omega arith) in
    go f.stuck p.taken (feeding f.state bs (room - length f.text)) (all_paid f.state bs (room - length f.text) (omega (arith, p.enough)))
  where
    go : (c : Bool) → c ≡ false → (g : Feeding) → g.taken ≡ length bs → (elim c as (λ x. Feeding) [ true ↦ stopped s | false ↦ after 1 (byte_fed s b room).text g ]).taken ≡ length (b ∷ bs)
    go true e g n = let z : ◌≡◌ {A = ℕ} 0 1 = cc in absurd (omega arith)
    go false e g n = omega (arith, n)

pub all_taken : (s : Begun) (bytes : List ℕ) (room : ℕ) → room_for (length bytes) ≤ room → (feeding s bytes room).taken ≡ length bytes
all_taken s bytes room h = all_paid s bytes room (omega arith)
