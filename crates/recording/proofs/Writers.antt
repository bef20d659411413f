-- The writer and the whole reading: what it wrote is read as the drill that it was handed, and of a recording that is read it writes the same bytes.
use Rattle.std.specs.Prelude.{Result, Ok, Err, ⊤}
use mathlib.Core.Path.{◌≡◌, refl, ap, ◌∙◌}
use mathlib.Core.Bool.{Bool, true, false}
use mathlib.Core.List.{List, map}
use Prim.Native.Nat.{ℕ, ◌≤◌}
use native.Mathlib.Omega.{arith}
use borrow.Author.Tests.{ltb-true, ltb-false}
use lib.Dec.{ltb}
use lib.ListN.{length, take}
use Rattle.rules.specs.TheWord.{at_front}
use Rattle.rules.specs.Refusals.{wrong_mode}
use Rattle.rules.specs.WhatComesBack.{Written}
use Rattle.rules.specs.declared.Refusal.{Refusal}
use Rattle.rules.proofs.StaysInRange.{read_front}
use Rattle.output.specs.Front.{put}
use Rattle.output.proofs.Rooms.{no_room, has_room}
use Rattle.groups.specs.Numbers.{AllBytes}
use Rattle.recording.specs.Recordings.{none_yet, drill, recorded}
use Rattle.recording.specs.Drills.{press_in, drill_bytes, checked_from, written_after, written_if, written_drill}
use Rattle.recording.specs.declared.KeyPress.{KeyPress}
use Rattle.recording.proofs.RoundTrips.{write_read, read_write}

-- what was written
module _ (m : ℕ) (xs : List KeyPress) (out : List ℕ) (n : ℕ) (after : List ℕ) where
  abbrev Is : Written → Type 0
  Is w = (Ok n ≡ w.answer) × (after ≡ w.output)

  no_answer : {A : Type 0} {r : Refusal} → ◌≡◌ {A = Result ℕ Refusal} (Ok n) (Err r) → A
  no_answer e = let z : ◌≡◌ {A = ℕ} 0 1 = cc in absurd (omega arith)

  same_long : {k : ℕ} → ◌≡◌ {A = Result ℕ Refusal} (Ok n) (Ok k) → k ≡ n
  same_long e = cc

  by_room : (b : Bool) → ltb (length out) (length (drill_bytes m xs)) ≡ b → Is (put (drill_bytes m xs) out) → take n after ≡ drill_bytes m xs
  by_room true t e = no_answer (e.0 ∙ ap (λ (w : Written). w.answer) (no_room (drill_bytes m xs) out (ltb-true (length out) (length (drill_bytes m xs)) t)))
  by_room false t e =
      let f = has_room (drill_bytes m xs) out (ltb-false (length out) (length (drill_bytes m xs)) t) in
      ap (take n) (e.1 ∙ ap (λ (w : Written). w.output) f) ∙ read_front (drill_bytes m xs) out n (same_long (e.0 ∙ ap (λ (w : Written). w.answer) f))

  by_fault : wrong_mode m ≡ false → (c : Result ⊤ Refusal) → checked_from (none_yet m) 0 xs ≡ c → Is (written_after c m xs out) → recorded (take n after) ≡ drill m xs
  by_fault known (Err r) c e = no_answer e.0
  by_fault known (Ok tt) c e = ap recorded (by_room (ltb (length out) (length (drill_bytes m xs))) refl e) ∙ write_read m xs known c

  by_mode : (b : Bool) → wrong_mode m ≡ b → Is (written_if b m xs out) → recorded (take n after) ≡ drill m xs
  by_mode true known e = no_answer e.0
  by_mode false known e = by_fault known (checked_from (none_yet m) 0 xs) refl e

pub wrote_read : (m : ℕ) (ns out : List ℕ) (n : ℕ) (after : List ℕ) → Ok n ≡ (written_drill m ns out).answer → after ≡ (written_drill m ns out).output → recorded (take n after) ≡ drill m (map press_in ns)
unfolding written_drill
wrote_read m ns out n after e f = by_mode m (map press_in ns) out n after (wrong_mode m) refl (e, f)

-- what is read is written
pub read_wrote : (s : List ℕ) → AllBytes s → (m : ℕ) (xs : List KeyPress) → recorded s ≡ drill m xs → (ns out : List ℕ) → map press_in ns ≡ xs → length s ≤ length out →
    written_drill m ns out ≡ record { answer = Ok (length s); output = at_front s out }
unfolding written_drill
read_wrote s all m xs e ns out back room =
    let r = read_write s all m xs e in
    ap (λ (ys : List KeyPress). written_if (wrong_mode m) m ys out) back ∙ ap (λ (b : Bool). written_if b m xs out) r.known ∙ ap (λ (c : Result ⊤ Refusal). written_after c m xs out) r.fine ∙
    ap (λ (bs : List ℕ). put bs out) r.bytes ∙ has_room s out room
