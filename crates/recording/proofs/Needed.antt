-- A drill in its bytes: how many each press takes, that its time is short, and what is put behind what.
use mathlib.Core.Path.{◌≡◌, sym, ap, ◌∙◌}
use mathlib.Core.List.{List, [], ◌∷◌, ◌++◌, map, append_assoc}
use Prim.Native.Nat.{ℕ, zero, suc, ◌+◌, ◌/◌, ◌%◌, ◌≤◌, ◌<◌}
use native.Mathlib.Numerals.{add-one}
use native.Mathlib.Omega.{arith}
use lib.Dec.{T, ltb→lt}
use lib.Ieee.Fits.{and_l, and_r}
use lib.ListN.{length, take, drop, get_or, length-append, length-take}
use lib.Seq.{take_at, drop_at, drop-drop, drop-cons}
use Rattle.rules.specs.TheWord.{at_front}
use Rattle.rules.specs.Refusals.{all}
use Rattle.groups.specs.Numbers.{limit, written}
use Rattle.recording.specs.Drills.{press_in, short_time, presses_bytes}

-- a text at a place of an output, and the place behind it
abbrev pub put_at : List ℕ → ℕ → List ℕ → List ℕ
put_at text at out = take at out ++ at_front text (drop at out)

abbrev pub Puts : List ℕ → (out after : List ℕ) (at next : ℕ) → Type 0
Puts text out after at next = (next ≡ at + length text) × (after ≡ put_at text at out)

-- another text behind it
pub put_more : (p q out after : List ℕ) (at next : ℕ) → at + length p ≤ length out → Puts p out after at next → put_at q next after ≡ put_at (p ++ q) at out
put_more p q out after at next h (e, d) =
    let long : length (take at out ++ p) ≡ at + length p = simp (length-append, length-take) (omega arith) in
    let behind = drop (length p) (drop at out) in
    let whole : put_at p at out ≡ (take at out ++ p) ++ behind = simp append_assoc in
    simp (e, d, whole, take_at (take at out ++ p) behind (at + length p) long, drop_at (take at out ++ p) behind (at + length p) long)
    (simp (append_assoc, length-append, drop-drop (length q) (length p) (drop at out)))

-- the bytes of the presses from a place on
abbrev pub rest : List ℕ → ℕ → List ℕ
rest s i = presses_bytes (map press_in (drop i s))

module _ (s : List ℕ) (i : ℕ) where
  abbrev time : List ℕ
  time = written (get_or s i 0 / 256)

  abbrev key : List ℕ
  key = written (get_or s i 0 % 256)

  turn : i < length s → rest s i ≡ time ++ (key ++ rest s (i + 1))
  turn h = simp (drop-cons s i 0 h, add-one, append_assoc)

  pub turn_long : i < length s → length (rest s i) ≡ length time + (length key + length (rest s (i + 1)))
  turn_long h = simp (turn h, length-append)

  pub turn_put : (out mid after : List ℕ) (at between next : ℕ) → i < length s → at + length (rest s i) ≤ length out → length mid ≡ length out
      → Puts time out mid at between → Puts key mid after between next → put_at (rest s (i + 1)) next after ≡ put_at (rest s i) at out
  turn_put out mid after at between next h room long p q =
      let n = turn_long h in
      put_more key (rest s (i + 1)) mid after between next (omega (arith, p.0)) q ∙
      put_more time (key ++ rest s (i + 1)) out mid at between (omega arith) p ∙
      ap (λ (text : List ℕ). put_at text at out) (sym (turn h))

pub short_at : (i : ℕ) (s : List ℕ) → i < length s → T (all short_time s) → get_or s i 0 / 256 < limit
short_at i [] h t = absurd (omega arith)
short_at zero (n ∷ s) h t = ltb→lt (n / 256) limit (and_l (short_time n) (all short_time s) t)
short_at (suc i) (n ∷ s) h t = short_at i s (omega arith) (and_r (short_time n) (all short_time s) t)
