-- Truth values, and choices by them.
use mathlib.Core.Path.{◌≡◌, refl}
use mathlib.Core.Bool.{Bool, true, false, ◌&&◌, ◌||◌}
use Prim.Native.Nat.{ℕ}
use borrow.Author.Tests.{eqb-true, eqb-false}
use lib.Dec.{T, eqb}

-- x where the test holds, else y
abbrev pub pick : {A : Type 0} → A → Bool → A → A
pick x t y = elim t [ true ↦ x | false ↦ y ]

abbrev pub if_so : Bool → Bool → Bool
if_so t b = pick b t false

pub only : (a : Bool) → a ≡ if_so a true
only true = refl
only false = refl

pub never : (a : Bool) → false ≡ if_so a false
never true = refl
never false = refl

pub and_true : (a : Bool) → a ≡ (a && true)
and_true true = refl
and_true false = refl

pub and_false : (a : Bool) → false ≡ (a && false)
and_false true = refl
and_false false = refl

pub and_is : (a b : Bool) → (a && b) ≡ if_so a b
and_is true b = refl
and_is false b = refl

pub or_is : (a b : Bool) → pick true a b ≡ (a || b)
or_is true b = refl
or_is false b = refl

pub or_assoc : (a b c : Bool) → ((a || b) || c) ≡ (a || (b || c))
or_assoc true b c = refl
or_assoc false b c = refl

pub or_pick : (a b c : Bool) → pick true a (b || c) ≡ (pick true a b || c)
or_pick true b c = refl
or_pick false b c = refl

-- a choice that holds: both of two tests, one of two
pub and_if : (b c : Bool) → T (if_so b c) → T b × T c
and_if true c t = (tt, t)
and_if false c t = elim t [ ]

pub either : {P : Type 0} (b c : Bool) → (T b → P) → (T c → P) → T (pick true b c) → P
either true c f g t = f tt
either false c f g t = g t

pub and_so : (b c : Bool) → T b → T c → T (if_so b c)
and_so true c t u = u
and_so false c t u = t

pub or_so : (b c : Bool) → T b → T (pick true b c)
or_so true c t = tt
or_so false c t = elim t [ ]

pub or_rest : (b c : Bool) → T c → T (pick true b c)
or_rest true c t = tt
or_rest false c t = t

-- a case on a test of two numbers
pub eqb_case : (P : Bool → Type 0) (a b : ℕ) → (a ≡ b → P true) → ((a ≡ b → ⊥) → P false) → P (eqb a b)
eqb_case P a b y n = go (eqb a b) refl
  where
    go : (t : Bool) → eqb a b ≡ t → P t
    go true e = y (eqb-true a b e)
    go false e = n (eqb-false a b e)
