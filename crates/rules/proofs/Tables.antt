-- A test that is computed over a whole table, or over every number below a bound, holds at each entry, or each such number.
use mathlib.Core.Path.{◌≡◌, refl}
use mathlib.Core.Bool.{Bool, true, false, ◌&&◌}
use mathlib.Core.List.{List, [], ◌∷◌}
use Prim.Native.Nat.{ℕ, zero, suc, ◌<◌}
use native.Mathlib.Nat.{le_of_suc-le-suc, not-suc-le-zero}
use native.Mathlib.Omega.{arith}
use lib.Dec.{T, eqb}
use borrow.Author.Tests.{eqb-true, eqb-false}
use lib.ListN.{length, get_or}
use lib.Ieee.Fits.{and_l, and_r}

abbrev next : (ℕ → ℕ → Bool) → ℕ → ℕ → Bool
next f k x = f (suc k) x

-- the test passes at each entry, handed its place and the entry
abbrev pub each : (ℕ → ℕ → Bool) → List ℕ → Bool
each f [] = true
each f (x ∷ xs) = f 0 x && each (next f) xs

pub entry : (f : ℕ → ℕ → Bool) (xs : List ℕ) → T (each f xs) → (k : ℕ) → k < length xs → T (f k (get_or xs k 0))
entry f [] t k h = absurd (not-suc-le-zero h)
entry f (x ∷ xs) t zero h = and_l (f 0 x) (each (next f) xs) t
entry f (x ∷ xs) t (suc k) h = entry (next f) xs (and_r (f 0 x) (each (next f) xs) t) k (le_of_suc-le-suc h)

abbrev pub each_below : (ℕ → Bool) → ℕ → Bool
each_below f zero = true
each_below f (suc n) = f n && each_below f n

pub below : (f : ℕ → Bool) (n : ℕ) → T (each_below f n) → (k : ℕ) → k < n → T (f k)
below f zero t k h = absurd (not-suc-le-zero h)
below f (suc n) t k h = go (eqb k n) refl (below f n (and_r (f n) (each_below f n) t) k)
  where
    go : (b : Bool) → eqb k n ≡ b → (k < n → T (f k)) → T (f k)
    go true e less = rw (eqb-true k n e) (and_l (f n) (each_below f n) t)
    go false e less = less (omega (arith, eqb-false k n e))
