-- A place that is found lies within the letters.
use Rattle.std.specs.Prelude.{Option, Some, None}
use mathlib.Core.Path.{◌≡◌, subst}
use mathlib.Core.Bool.{Bool, true, false}
use mathlib.Core.List.{[], ◌∷◌}
use Prim.Native.Nat.{ℕ, suc, ◌<◌}
use native.Mathlib.Omega.{arith}
use lib.ListN.{length}
use Rattle.rules.specs.Letters.{Letter, Letters}
use Rattle.rules.specs.KeyRoles.{is_q, is_pair, is_single}
use Rattle.targets.specs.Places.{or_this, here_or, last_place, pair_place, single_place}

data Below (n : ℕ) : Option ℕ → Type 0 where
  below : (i : ℕ) → i < n → Below n (Some i)
  no_place : Below n None

below_or : {n : ℕ} {p : Option ℕ} (c : Bool) → Below n p → Below (suc n) (or_this p c)
below_or c (below i h) = below (suc i) (omega arith)
below_or true no_place = below 0 (omega arith)
below_or false no_place = no_place

below_here : {n : ℕ} {p : Option ℕ} (c : Bool) → Below n p → Below (suc n) (here_or c p)
below_here true b = below 0 (omega arith)
below_here false (below i h) = below (suc i) (omega arith)
below_here false no_place = no_place

of_below : {n i : ℕ} → Below n (Some i) → i < n
of_below (below i h) = h

last_view : (want : ℕ → Bool) (xs : Letters) → Below (length xs) (last_place want xs)
last_view want [] = no_place
last_view want (x ∷ xs) = below_or (want x.base) (last_view want xs)

single_view : (q : Bool) (xs : Letters) → Below (length xs) (single_place q xs)
single_view q [] = no_place
single_view q (x ∷ xs) = below_here (is_single q x.base) (single_view (is_q x) xs)

pair_view : (q : Bool) (x : Letter) (xs : Letters) → Below (length xs) (pair_place q (x ∷ xs))
pair_view q x [] = no_place
pair_view q x (z ∷ zs) = below_here (is_pair q x.base z.base) (pair_view (is_q x) z zs)

pub last_within : (want : ℕ → Bool) (xs : Letters) {i : ℕ} → last_place want xs ≡ Some i → i < length xs
last_within want xs e = of_below (subst (Below (length xs)) e (last_view want xs))

pub single_within : (q : Bool) (xs : Letters) {i : ℕ} → single_place q xs ≡ Some i → i < length xs
single_within q xs e = of_below (subst (Below (length xs)) e (single_view q xs))

pub pair_within : (q : Bool) (xs : Letters) {i : ℕ} → pair_place q xs ≡ Some i → suc i < length xs
pair_within q [] e = let z : ◌≡◌ {A = ℕ} 0 1 = cc in absurd (omega arith)
pair_within q (x ∷ xs) e = let h = of_below (subst (Below (length xs)) e (pair_view q x xs)) in omega arith
