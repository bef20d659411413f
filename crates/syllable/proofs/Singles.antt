-- A word that is one letter without a shape, by its number: it is one of a list exactly if the letter alone is. Any other word is one only of the others.
use mathlib.Core.Path.{◌≡◌, sym, ◌∙◌}
use mathlib.Core.Bool.{Bool, true, false}
use mathlib.Core.List.{List, [], ◌∷◌}
use Prim.Native.Nat.{ℕ, ◌+◌, ◌*◌, ◌≤◌, ◌<◌, ◌%◌}
use native.Mathlib.Omega.{arith}
use lib.Dec.{T, ltb}
use borrow.Author.Tests.{lt-ltb}
use Rattle.rules.specs.Letters.{Letters, one_of, first_base}
use Rattle.classes.specs.LetterClasses.{alone}
use Rattle.syllable.specs.Numbers.{nums, packed, Packs}
use Rattle.syllable.proofs.PackedWords.{T-lt, shorts, one_is, first_is}
use Rattle.syllable.proofs.Keys.{Key, every, holds, in_arm, no_one}

-- a letter's digit is odd, and so is a word's number
odd : (w : Letters) → (packed w ≡ 0 → ⊥) → packed w % 2 ≡ 1
odd [] n = absurd (n (omega arith))
odd (a ∷ []) n = omega arith
odd (a ∷ b ∷ []) n = omega arith
odd (a ∷ b ∷ c ∷ []) n = omega arith
odd (a ∷ b ∷ c ∷ d ∷ ds) n = omega arith

-- the numbers of a list that are those of one plain letter
abbrev is_single : ℕ → Bool
is_single p = ltb p 512

abbrev singles : List ℕ → List ℕ
singles [] = []
singles (k ∷ ks) = elim (is_single k) [ true ↦ k ∷ singles ks | false ↦ singles ks ]

module _ {p : ℕ} {w : Letters} (c : Packs p w) (zs : List Letters) (s : T (shorts zs)) where
  pub by_letter : (p ≡ 0 → ⊥) → p < 512 → (b : ℕ) → b ≡ first_base w → one_of (alone b) zs ≡ one_of w zs
  by_letter n h b e = sym (one_is itself zs s) ∙ one_is c zs s
    where
      number : p ≡ 2 * b + 1
      number = omega (arith, odd w (λ z. n (c.is ∙ z)), c.is, first_is c, e)

      itself : Packs p (alone b)
      itself = record { is = number ∙ omega arith; bounded = rw (lt-ltb b 256 (omega (arith, number))) tt }

  pub no_other : 512 ≤ p → (ks : List ℕ) → T (every (in_arm (ks ∷ singles (nums zs) ∷ [])) (nums zs)) → T (every is_single (singles (nums zs))) → (Key p ks → ⊥) → false ≡ one_of w zs
  no_other h ks t u n = no_one c zs s (ks ∷ singles (nums zs) ∷ []) t (n, ((λ k. omega (arith, T-lt p 512 (holds is_single p (singles (nums zs)) u k))), tt))
