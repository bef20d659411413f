-- A number's groups are read as the number, whatever stands behind them; and the number that is read at the front of bytes is written as the bytes that it was read from.
use Rattle.std.specs.Prelude.{Option, Some}
use mathlib.Core.Path.{◌≡◌, refl, sym, ap, ap₂, ◌∙◌}
use mathlib.Core.Bool.{Bool, true, false}
use mathlib.Core.List.{List, [], ◌∷◌, ◌++◌}
use Prim.Native.Nat.{ℕ, zero, suc, ◌+◌, ◌*◌, ◌/◌, ◌%◌, ◌^◌, ◌≤◌, ◌<◌}
use native.Mathlib.Omega.{arith}
use borrow.Author.Tests.{ltb-true, ltb-false}
use lib.Dec.{ltb}
use lib.ListN.{length, drop}
use Rattle.groups.specs.Numbers.{limit, groups_of, written, number_in, number, AllBytes}
use Rattle.groups.specs.declared.Number.{Number}
use Rattle.groups.proofs.Stands.{Stands, last, more, by_test, stands, is_read, within}
use Rattle.groups.proofs.Writing.{by_size, of_small, of_large}

-- what is written is read
stands_written : (k n : ℕ) (rest : List ℕ) → n < 128 ^ suc k → n < limit → Stands (suc k) (groups_of k n ++ rest) n (length (groups_of k n))
stands_written zero n rest h below = last {b = n} (omega arith)
stands_written (suc k) n rest h below = go (ltb n 128) refl (stands_written k (n / 128) rest (omega arith) (omega arith))
  where
    go : (c : Bool) → ltb n 128 ≡ c → Stands (suc k) (groups_of k (n / 128) ++ rest) (n / 128) (length (groups_of k (n / 128))) → Stands (suc (suc k)) (by_size k n c ++ rest) n (length (by_size k n c))
    go true t s = last (ltb-true n 128 t)
    go false t s = let large = ltb-false n 128 t in more {b = 128 + n % 128} {v = n} (omega arith) s (omega arith) (omega arith) below

pub number_back : (n : ℕ) → n < 4294967296 → (rest : List ℕ) → number (written n ++ rest) ≡ Some (record { value = n; groups = length (written n) })
unfolding number written
number_back n h rest = is_read (stands_written 4 n rest (omega arith) h)

-- what is read is written: of the low group and the number behind it
grouped : (j v b w : ℕ) → 1 ≤ w → v ≡ b % 128 + 128 * w → groups_of (suc j) v ≡ (128 + b % 128) ∷ groups_of j w
grouped j v b w one e =
    let low : v % 128 ≡ b % 128 = omega arith in
    let high : v / 128 ≡ w = omega arith in
    of_large j v (omega arith) ∙ ap₂ (λ (x m : ℕ). (128 + x) ∷ groups_of j m) low high

in_groups : {k v g : ℕ} {bs : List ℕ} → Stands k bs v g → (j : ℕ) → k ≤ suc j → g ≡ length (groups_of j v)
in_groups (last {b = b} h) j l = sym (ap length (of_small j b h))
in_groups (more h s one e below) zero l = absurd (omega (arith, within s))
in_groups (more {b = b} {v = v} {w = w} h s one e below) (suc j) l = ap suc (in_groups s j (omega arith)) ∙ sym (ap length (grouped j v b w one e))

as_before : {k v g : ℕ} {bs : List ℕ} → Stands k bs v g → (j : ℕ) → k ≤ suc j → AllBytes bs → bs ≡ groups_of j v ++ drop g bs
as_before (last {b = b} {bs = bs} h) j l t = ap (λ (gs : List ℕ). gs ++ bs) (sym (of_small j b h))
as_before (more h s one e below) zero l t = absurd (omega (arith, within s))
as_before (more {b = b} {v = v} {w = w} {g = g} {bs = bs} h s one e below) (suc j) l t =
    let byte : b ≡ 128 + b % 128 = omega (arith, t 0) in
    ap₂ ◌∷◌ byte (as_before s j (omega arith) (λ i. t (suc i))) ∙ ap (λ (gs : List ℕ). gs ++ drop g bs) (sym (grouped j v b w one e))

module _ (bs : List ℕ) (n : Number) (e : number bs ≡ Some n) where
  here : Stands 5 bs n.value n.groups
  unfolding number
  here = stands 5 bs n e

  pub written_back : AllBytes bs → bs ≡ written n.value ++ drop n.groups bs
  unfolding written
  written_back t = as_before here 4 (omega arith) t

  pub number_groups : n.groups ≡ length (written n.value)
  unfolding written
  number_groups = in_groups here 4 (omega arith)

  pub number_within : (1 ≤ n.groups) × (n.groups ≤ length bs) × (n.groups ≤ 5)
  number_within = within here

-- nothing behind five bytes matters
same : (k : ℕ) (bs rest : List ℕ) → k ≤ length bs → number_in k (bs ++ rest) ≡ number_in k bs
same zero bs rest h = refl
same (suc k) [] rest h = absurd (omega arith)
same (suc k) (b ∷ bs) rest h = ap (λ (o : Option Number). by_test b o (ltb b 128)) (same k bs rest (omega arith))

pub number_front : (bs rest : List ℕ) → 5 ≤ length bs → number (bs ++ rest) ≡ number bs
unfolding number
number_front bs rest h = same 5 bs rest h

-- one group to five
some_few : (k n : ℕ) → (1 ≤ length (groups_of k n)) × (length (groups_of k n) ≤ suc k)
some_few zero n = omega arith
some_few (suc k) n = go (ltb n 128) (some_few k (n / 128))
  where
    go : (c : Bool) → (1 ≤ length (groups_of k (n / 128))) × (length (groups_of k (n / 128)) ≤ suc k) → (1 ≤ length (by_size k n c)) × (length (by_size k n c) ≤ suc (suc k))
    go true h = omega arith
    go false h = omega arith

pub written_some : (n : ℕ) → 1 ≤ length (written n)
unfolding written
written_some n = (some_few 4 n).0

pub written_few : (n : ℕ) → length (written n) ≤ 5
unfolding written
written_few n = (some_few 4 n).1
