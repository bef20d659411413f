-- A number that stands at the front of bytes, group by group: what is read there is such a number, and such a number is read.
use Rattle.std.specs.Prelude.{Option, Some, None}
use mathlib.Core.Path.{◌≡◌, refl, sym, ap, subst, ◌∙◌}
use mathlib.Core.Bool.{Bool, true, false}
use mathlib.Core.List.{List, [], ◌∷◌}
use Prim.Native.Nat.{ℕ, zero, suc, ◌+◌, ◌*◌, ◌%◌, ◌≤◌, ◌<◌}
use native.Mathlib.Omega.{arith}
use borrow.Author.Tests.{ltb-true, ltb-false, lt-ltb, le-ltb}
use lib.Dec.{ltb}
use lib.ListN.{length}
use Rattle.groups.specs.Numbers.{limit, in_front, number_in}
use Rattle.groups.specs.declared.Number.{Number}
use Rattle.groups.proofs.Fronts.{both_together, no_number, same_number, was_both}

-- in at most so many groups, at the front of these bytes, this value in so many groups
pub data Stands : ℕ → List ℕ → ℕ → ℕ → Type 0 where
  last : {k b : ℕ} {bs : List ℕ} → b < 128 → Stands (suc k) (b ∷ bs) b 1
  more : {k b v w g : ℕ} {bs : List ℕ} → 128 ≤ b → Stands k bs w g → 1 ≤ w → v ≡ b % 128 + 128 * w → v < limit → Stands (suc k) (b ∷ bs) v (suc g)

-- one group, by its test
abbrev pub by_test : ℕ → Option Number → Bool → Option Number
by_test b o c = elim c [ true ↦ Some (record { value = b; groups = 1 }) | false ↦ in_front (b % 128) o ]

abbrev At : ℕ → List ℕ → Number → Type 0
At k bs n = Stands k bs n.value n.groups

pub stands : (k : ℕ) (bs : List ℕ) (n : Number) → number_in k bs ≡ Some n → At k bs n
stands zero bs n e = no_number n e
stands (suc k) [] n e = no_number n e
stands (suc k) (b ∷ bs) n e = go (ltb b 128) refl (number_in k bs) (stands k bs) e
  where
    go : (c : Bool) → ltb b 128 ≡ c → (o : Option Number) → ((m : Number) → o ≡ Some m → At k bs m) → by_test b o c ≡ Some n → At (suc k) (b ∷ bs) n
    go true t o f e = subst (At (suc k) (b ∷ bs)) (same_number e) (last (ltb-true b 128 t))
    go false t None f e = no_number n e
    go false t (Some m) f e =
        let (some-value, below, is) = was_both (b % 128) m n e in
        subst (At (suc k) (b ∷ bs)) is (more (ltb-false b 128 t) (f m refl) some-value refl below)

pub is_read : {k v g : ℕ} {bs : List ℕ} → Stands k bs v g → number_in k bs ≡ Some (record { value = v; groups = g })
is_read (last {k} {b} {bs} h) = ap (by_test b (number_in k bs)) (lt-ltb b 128 h)
is_read (more {k} {b} {v} {w} {g} {bs} h s one e below) =
    ap (by_test b (number_in k bs)) (le-ltb b 128 h) ∙ ap (in_front (b % 128)) (is_read s) ∙
    both_together (b % 128) (record { value = w; groups = g }) (λ z. omega arith) (omega arith) ∙
    (λ i. Some (record { value = sym e i; groups = suc g }))

pub within : {k v g : ℕ} {bs : List ℕ} → Stands k bs v g → (1 ≤ g) × (g ≤ length bs) × (g ≤ k)
within (last h) = omega arith
within (more h s one e below) = omega (arith, within s)
