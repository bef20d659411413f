-- A low group in front of a number, by its two tests: none where the number is 0 or both together reach the limit, else both together.
use Rattle.std.specs.Prelude.{Option, Some, None}
use mathlib.Core.Path.{◌≡◌, refl, ap₂}
use mathlib.Core.Bool.{Bool, true, false, ◌||◌}
use Prim.Native.Nat.{ℕ, suc, ◌+◌, ◌*◌, ◌≤◌, ◌<◌}
use native.Mathlib.Omega.{arith}
use borrow.Author.Tests.{eq-eqb, ne_eqb, le-leb, lt-leb, eqb-false, leb-false}
use lib.Dec.{eqb, leb}
use Rattle.groups.specs.Numbers.{limit, in_front}
use Rattle.groups.specs.declared.Number.{Number}

abbrev both : ℕ → Number → Number
both low n = record { value = low + 128 * n.value; groups = suc n.groups }

abbrev unless : Bool → Number → Option Number
unless b n = elim b [ true ↦ None | false ↦ Some n ]

module _ (low : ℕ) (n : Number) where
  by_tests : (z l : Bool) → eqb n.value 0 ≡ z → leb limit (low + 128 * n.value) ≡ l → in_front low (Some n) ≡ unless (z || l) (both low n)
  by_tests z l p q = ap₂ (λ (x y : Bool). unless (x || y) (both low n)) p q

  pub zero_behind : n.value ≡ 0 → in_front low (Some n) ≡ None
  zero_behind e = by_tests true (leb limit (low + 128 * n.value)) (eq-eqb n.value 0 e) refl

  pub too_large : (n.value ≡ 0 → ⊥) → limit ≤ low + 128 * n.value → in_front low (Some n) ≡ None
  too_large z h = by_tests false true (ne_eqb n.value 0 z) (le-leb limit (low + 128 * n.value) h)

  pub both_together : (n.value ≡ 0 → ⊥) → low + 128 * n.value < limit → in_front low (Some n) ≡ Some (both low n)
  both_together z h = by_tests false false (ne_eqb n.value 0 z) (lt-leb limit (low + 128 * n.value) h)

pub no_number : {A : Type 0} (n : Number) → None ≡ Some n → A
no_number n e = let z : ◌≡◌ {A = ℕ} 0 1 = cc in absurd (omega arith)

pub same_number : {m n : Number} → Some m ≡ Some n → m ≡ n
same_number e = cc

-- and back: where there is one, both tests passed
pub was_both : (low : ℕ) (m n : Number) → in_front low (Some m) ≡ Some n → (1 ≤ m.value) × (low + 128 * m.value < limit) × (both low m ≡ n)
was_both low m n e = go (eqb m.value 0) refl (leb limit (low + 128 * m.value)) refl e
  where
    go : (z : Bool) → eqb m.value 0 ≡ z → (l : Bool) → leb limit (low + 128 * m.value) ≡ l → unless (z || l) (both low m) ≡ Some n → (1 ≤ m.value) × (low + 128 * m.value < limit) × (both low m ≡ n)
    go true p l q e = no_number n e
    go false p true q e = no_number n e
    go false p false q e = let z = eqb-false m.value 0 p in (omega arith, leb-false limit (low + 128 * m.value) q, same_number e)
