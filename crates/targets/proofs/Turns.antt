-- One turn of each search for a target, and its ends.
use mathlib.Core.Path.{◌≡◌, refl, sym, ap, ap₂}
use mathlib.Core.Bool.{Bool, true, false}
use mathlib.Core.List.{List, [], ◌∷◌, map}
use Prim.Native.Nat.{ℕ, zero, suc, ◌+◌, ◌<◌, ◌≤◌}
use native.Mathlib.Numerals.{add-one}
use native.Mathlib.Omega.{arith}
use lib.ListN.{length, take, drop, get_or}
use Rattle.std.specs.Prelude.{Option, Some, None}
use Rattle.rules.specs.TheWord.{letter}
use Rattle.rules.specs.KeyRoles.{is_q, is_pair}
use Rattle.rules.proofs.Searches.{IsLastPlace}
use Rattle.targets.specs.Places.{next, or_this, last_place, pair_place}

-- the search from the end, by what `rposition` finds
module _ (want : ℕ → Bool) where
  abbrev pub wants_letter : ℕ → Bool
  wants_letter n = want (letter n).base

  pub last_found : (s : List ℕ) (r : Option ℕ) → IsLastPlace wants_letter s r → r ≡ last_place want (map letter s)
  last_found [] (Some i) h = absurd (omega (arith, h.0))
  last_found [] None h = refl
  last_found (x ∷ xs) None h = ap₂ or_this (last_found xs None (λ k l. h (suc k) (omega arith))) (sym (h 0 (omega arith)))
  last_found (x ∷ xs) (Some zero) h = ap₂ or_this (last_found xs None (λ k l. h.2 (suc k) (omega arith) (omega arith))) (sym h.1)
  last_found (x ∷ xs) (Some (suc i)) h =
      ap (λ (p : Option ℕ). or_this p (wants_letter x)) (last_found xs (Some i) (omega (arith, h.0), h.1, λ k m l. h.2 (suc k) (omega arith) (omega arith)))

-- the searches from the front: what is found from here on, counted from the start
abbrev pub from : ℕ → Option ℕ → Option ℕ
from i (Some n) = Some (i + n)
from i None = None

pub from_zero : (p : Option ℕ) → from 0 p ≡ p
from_zero (Some n) = ap Some (omega arith)
from_zero None = refl

from_next : (i : ℕ) (p : Option ℕ) → from i (next p) ≡ from (suc i) p
from_next i (Some n) = ap Some (omega arith)
from_next i None = refl

-- what is left of the letters to a search of pairs, i in front: two more letters, or no two
module _ (s : List ℕ) (i n : ℕ) (q : Bool) (n_is : n ≡ 2) where
  pub pair_end : length s < n → None ≡ from i (pair_place q (map letter s))
  pair_end h = go s (omega arith)
    where
      go : (s : List ℕ) → length s < 2 → None ≡ from i (pair_place q (map letter s))
      go [] h = refl
      go (x ∷ []) h = refl
      go (x ∷ z ∷ s) h = absurd (omega arith)

  module _ (two : List ℕ) (h : n ≤ length s) (e : two ≡ take n s) where
    pub pair_here : is_pair q (letter (get_or two 0 0)).base (letter (get_or two 1 0)).base ≡ true → Some i ≡ from i (pair_place q (map letter s))
    pair_here t = go s (omega arith) (rw (e, n_is) at t)
      where
        go : (s : List ℕ) → 2 ≤ length s → is_pair q (letter (get_or (take 2 s) 0 0)).base (letter (get_or (take 2 s) 1 0)).base ≡ true → Some i ≡ from i (pair_place q (map letter s))
        go [] h t = absurd (omega arith)
        go (x ∷ []) h t = absurd (omega arith)
        go (x ∷ z ∷ s) h t = rw t (ap Some (omega arith))

    pub pair_on : (rest : List ℕ) → rest ≡ drop 1 s → is_pair q (letter (get_or two 0 0)).base (letter (get_or two 1 0)).base ≡ false →
        from (i + 1) (pair_place (is_q (letter (get_or two 0 0))) (map letter rest)) ≡ from i (pair_place q (map letter s))
    pair_on rest f t = rw (f, e, n_is) (go s (omega arith) (rw (e, n_is) at t))
      where
        go : (s : List ℕ) → 2 ≤ length s → is_pair q (letter (get_or (take 2 s) 0 0)).base (letter (get_or (take 2 s) 1 0)).base ≡ false →
            from (i + 1) (pair_place (is_q (letter (get_or (take 2 s) 0 0))) (map letter (drop 1 s))) ≡ from i (pair_place q (map letter s))
        go [] h t = absurd (omega arith)
        go (x ∷ []) h t = absurd (omega arith)
        go (x ∷ z ∷ s) h t = rw (t, add-one) (sym (from_next i (pair_place (is_q (letter x)) (map letter (z ∷ s)))))
