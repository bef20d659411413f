-- The first faulty press of a drill: what is known where there is none, and the writer's answer by its tests.
use Rattle.std.specs.Prelude.{Result, Ok, Err, ⊤}
use mathlib.Core.Path.{◌≡◌, refl}
use mathlib.Core.Bool.{true, false}
use mathlib.Core.List.{List, [], ◌∷◌, map}
use Prim.Native.Nat.{ℕ, suc, ◌≤◌, ◌<◌}
use native.Mathlib.Omega.{arith}
use lib.Dec.{T, lt→ltb}
use lib.Ieee.Fits.{and_i}
use lib.ListN.{length, drop}
use Rattle.rules.specs.Refusals.{all, wrong_mode}
use Rattle.rules.specs.TheWord.{at_front}
use Rattle.rules.specs.declared.Refusal.{Refusal}
use Rattle.output.proofs.Rooms.{no_room, has_room}
use Rattle.groups.specs.Numbers.{limit}
use Rattle.recording.specs.Recordings.{none_yet, onward, refused_for, checked}
use Rattle.recording.specs.Drills.{press_in, short_time, drill_bytes, unless, checked_from, written_drill}
use Rattle.recording.specs.declared.Progress.{Progress}
use Rattle.recording.proofs.Presses.{is_fine}

-- the first faulty press from a place on
abbrev pub fault : Progress → List ℕ → ℕ → Result ⊤ Refusal
fault p s i = checked_from p i (map press_in (drop i s))

-- where no press is faulty, each time is short
pub all_short : (p : Progress) (i : ℕ) (s : List ℕ) → checked_from p i (map press_in s) ≡ (Ok tt) → T (all short_time s)
all_short p i [] e = tt
all_short p i (n ∷ s) e = go (checked p (press_in n) i i) refl (all_short (onward p (press_in n)) (suc i) s) e
  where
    go : (c : Result ⊤ Refusal) → checked p (press_in n) i i ≡ c → {later : Result ⊤ Refusal} → (later ≡ (Ok tt) → T (all short_time s)) → unless c later ≡ (Ok tt) → T (all short_time (n ∷ s))
    go (Ok tt) f g e' = and_i (short_time n) (all short_time s) (lt→ltb (press_in n).milliseconds limit (omega (arith, (is_fine p (press_in n) i i f).short))) (g e')
    go (Err r) f g e' = let z : ◌≡◌ {A = ℕ} 0 1 = cc in absurd (omega arith)

-- the writer's answer by its tests, said as its contract does
module _ (mode : ℕ) (s out : List ℕ) where
  abbrev Says : Result ℕ Refusal → List ℕ → Type 0
  Says answer after = (answer ≡ (written_drill mode s out).answer) × (after ≡ (written_drill mode s out).output)

  abbrev text : List ℕ
  text = drill_bytes mode (map press_in s)

  pub no_mode : wrong_mode mode ≡ true → Says (Err (refused_for 1 0)) out
  unfolding written_drill
  no_mode m = simp m (refl, refl)

  pub one_faulty : {c : Result ⊤ Refusal} {r : Refusal} → wrong_mode mode ≡ false → c ≡ fault (none_yet mode) s 0 → c ≡ Err r → Says (Err r) out
  unfolding written_drill
  one_faulty m e f = simp (m, ← e, f) (refl, refl)

  module _ {c : Result ⊤ Refusal} (m : wrong_mode mode ≡ false) (e : c ≡ fault (none_yet mode) s 0) (f : c ≡ (Ok tt)) {n : ℕ} (l : n ≡ length text) where
    pub too_short : length out < n → Says (Err (refused_for 4 n)) out
    unfolding written_drill
    too_short h = simp (m, ← e, f, no_room text out (omega arith), l) (refl, refl)

    pub all_put : {after : List ℕ} → after ≡ at_front text out → n ≤ length out → Says (Ok n) after
    unfolding written_drill
    all_put d h = simp (m, ← e, f, has_room text out (omega arith), l, d) (refl, refl)
