-- Facts from tests: the parts of a conjunction, an implication, an equation.
use mathlib.Core.Path.{◌≡◌, refl}
use mathlib.Core.Bool.{Bool, true, false, not, ◌&&◌, ◌||◌, beq}
use Prim.Native.Nat.{ℕ}
use native.Mathlib.Omega.{arith}
use lib.Dec.{T}

pub first : (p q : Bool) → p && q ≡ true → p ≡ true
first true q e = refl
first false q e = e

pub second : (p q : Bool) → p && q ≡ true → q ≡ true
second true q e = e
second false q e = let z : ◌≡◌ {A = ℕ} 0 1 = cc in absurd (omega arith)

pub either : (p q : Bool) → T (not p || q) → p ≡ true → T q
either true q t e = t
either false q t e = let z : ◌≡◌ {A = ℕ} 0 1 = cc in absurd (omega arith)

pub same_bool : (b c : Bool) → T (beq b c) → b ≡ c
same_bool true true t = refl
same_bool true false t = absurd t
same_bool false true t = absurd t
same_bool false false t = refl
