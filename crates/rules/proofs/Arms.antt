-- What a match knows at its last arm: that no case of an earlier arm holds.
use mathlib.Core.Path.{◌≡◌}
use mathlib.Core.List.{List, [], ◌∷◌}
use Prim.Native.Nat.{ℕ}
use lib.Dec.{T, eqb, eqb→eq}
use Rattle.rules.specs.Letters.{elem}
use Rattle.rules.proofs.Tests.{either}

-- as the match gives it: first P, then for each arm passed that its case Q does not hold
abbrev pub Passed : {X : Type 0} → (X → Type 0) → Type 0 → List X → Type 0
Passed Q P [] = P
Passed Q P (x ∷ xs) = Passed Q (P × (Q x → ⊥)) xs

abbrev pub NoneIn : {X : Type 0} → (X → Type 0) → List X → Type 0
NoneIn Q [] = Unit
NoneIn Q (x ∷ xs) = (Q x → ⊥) × NoneIn Q xs

first : {X : Type 0} (Q : X → Type 0) (P : Type 0) (xs : List X) → Passed Q P xs → P
first Q P [] h = h
first Q P (x ∷ xs) h = (first Q (P × (Q x → ⊥)) xs h).0

pub none_in : {X : Type 0} (Q : X → Type 0) (P : Type 0) (xs : List X) → Passed Q P xs → NoneIn Q xs
none_in Q P [] h = tt
none_in Q P (x ∷ xs) h = ((first Q (P × (Q x → ⊥)) xs h).1, none_in Q (P × (Q x → ⊥)) xs h)

-- an arm of one number
abbrev pub NoneOf : ℕ → List ℕ → Type 0
NoneOf b xs = NoneIn (◌≡◌ b) xs

pub none_of : (P : Type 0) (b : ℕ) (xs : List ℕ) → Passed (◌≡◌ b) P xs → NoneOf b xs
none_of P b xs h = none_in (◌≡◌ b) P xs h

pub none_elem : (b : ℕ) (xs : List ℕ) → NoneOf b xs → T (elem b xs) → ⊥
none_elem b [] h t = t
none_elem b (x ∷ []) h t = h.0 (eqb→eq b x t)
none_elem b (x ∷ y ∷ ys) h t = either (eqb b x) (elem b (y ∷ ys)) (λ e. h.0 (eqb→eq b x e)) (none_elem b (y ∷ ys) h.1) t
