-- One step of writing: a number's groups by its size, and how far the loop has come.
use mathlib.Core.Path.{◌≡◌, refl, sym, ap, ◌∙◌}
use mathlib.Core.Bool.{Bool, true, false}
use mathlib.Core.List.{List, [], ◌∷◌, ◌++◌}
use Prim.Native.Nat.{ℕ, zero, suc, ◌+◌, ◌-◌, ◌/◌, ◌%◌, ◌^◌, ◌≤◌, ◌<◌}
use native.Mathlib.Omega.{arith}
use borrow.Author.Tests.{lt-ltb, le-ltb}
use lib.ListN.{length, set, replicate, length-append}
use lib.Seq.{set_at, append_snoc}
use Rattle.groups.specs.Numbers.{limit, groups_of, written, held}
use Rattle.groups.specs.declared.Groups.{Groups}

abbrev pub by_size : ℕ → ℕ → Bool → List ℕ
by_size k n c = elim c [ true ↦ n ∷ [] | false ↦ (128 + n % 128) ∷ groups_of k (n / 128) ]

pub of_small : (k n : ℕ) → n < 128 → groups_of k n ≡ n ∷ []
of_small zero n h = refl
of_small (suc k) n h = ap (by_size k n) (lt-ltb n 128 h)

pub of_large : (k n : ℕ) → 128 ≤ n → groups_of (suc k) n ≡ (128 + n % 128) ∷ groups_of k (n / 128)
of_large k n h = ap (by_size k n) (le-ltb n 128 h)

-- so far: the groups at the front are written, zeros stand behind them, and they are the number's with those of what is left
pub data SoFar (n i left : ℕ) (bytes : List ℕ) : Type 0 where
  so_far : (front : List ℕ) (k : ℕ) → length front ≡ i → i + k ≡ 4 → bytes ≡ front ++ replicate (suc k) 0 → left < 128 ^ suc k → front ++ groups_of k left ≡ written n → SoFar n i left bytes

pub begun : (n : ℕ) → n < limit → SoFar n 0 n (replicate 5 0)
unfolding written
begun n h = so_far [] 4 refl refl refl (omega arith) refl

one_set : (front bytes : List ℕ) (i k b : ℕ) → length front ≡ i → bytes ≡ front ++ replicate (suc k) 0 → set bytes i b ≡ front ++ (b ∷ []) ++ replicate k 0
one_set front bytes i k b at holds = ap (λ (l : List ℕ). set l i b) holds ∙ set_at front 0 (replicate k 0) b i at ∙ sym (append_snoc front b (replicate k 0))

module _ {n i left : ℕ} {bytes : List ℕ} where
  pub few : SoFar n i left bytes → i < 5
  few (so_far front k at all holds below whole) = omega arith

  pub one_more : SoFar n i left bytes → 128 ≤ left → SoFar n (i + 1) (left / 128) (set bytes i (128 + left % 128))
  one_more (so_far front zero at all holds below whole) h = absurd (omega arith)
  one_more (so_far front (suc k) at all holds below whole) h =
      let b = 128 + left % 128 in
      so_far (front ++ (b ∷ [])) k (length-append front (b ∷ []) ∙ omega arith) (omega arith) (one_set front bytes i (suc k) b at holds) (omega arith)
      (append_snoc front b (groups_of k (left / 128)) ∙ ap (λ (l : List ℕ). front ++ l) (sym (of_large k left h)) ∙ whole)

  pub all_written : SoFar n i left bytes → left < 128 → ◌≡◌ {A = Groups} (record { bytes = set bytes i left; count = i + 1 }) (held (written n))
  all_written (so_far front k at all holds below whole) h =
      let gs = front ++ (left ∷ []) in
      let long : i + 1 ≡ length gs = omega (arith, length-append front (left ∷ [])) in
      let room : k ≡ 5 - length gs = omega arith in
      let here = one_set front bytes i k left at holds ∙ ap (λ (m : ℕ). gs ++ replicate m 0) room in
      let is : gs ≡ written n = ap (λ (l : List ℕ). front ++ l) (sym (of_small k left h)) ∙ whole in
      (λ j. record { bytes = here j; count = long j }) ∙ ap held is
