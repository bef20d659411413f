-- The tone is shown on a vowel letter, whatever the word.
use Rattle.std.specs.Prelude.{Option, Some, None}
use mathlib.Core.Path.{◌≡◌, refl, sym, subst}
use mathlib.Core.Bool.{Bool, true, false, not, ◌&&◌, ◌||◌}
use mathlib.Core.List.{[], ◌∷◌, ◌++◌}
use Prim.Native.Nat.{ℕ, zero, suc, ◌+◌, ◌<◌}
use native.Mathlib.Omega.{arith}
use borrow.Author.Tests.{eqb-true}
use lib.Dec.{T, eqb}
use lib.ListN.{length}
use Rattle.rules.specs.Letters.{Letter, Letters, plain, no_tone, is_nil}
use Rattle.rules.specs.TakingApart.{vowel, front, front_if, past, before, run, joins, nucleus_of, initial, nucleus, final, leftovers}
use Rattle.rules.specs.TonePlace.{or_here, last_shaped, by_count, or_by_count, place_within, place_unless, tone_place}
use Rattle.rules.proofs.Wholes.{whole}

-- there is a letter at the place, and it is a vowel letter
abbrev pub vowel_at : ℕ → Letters → Bool
vowel_at n [] = false
vowel_at zero (x ∷ xs) = vowel x.base
vowel_at (suc n) (x ∷ xs) = vowel_at n xs

-- letters that are all vowels: a run of them, and all but its first
data Vowels : Letters → Type 0 where
  no_letters : Vowels []
  and_these : {x : Letter} {xs : Letters} → T (vowel x.base) → Vowels xs → Vowels (x ∷ xs)

front_vowels : (w : Letters) → Vowels (front true w)
front_vowels [] = no_letters
front_vowels (x ∷ xs) = go (vowel x.base) refl (front_vowels xs)
  where
    go : (b : Bool) → vowel x.base ≡ b → Vowels (front true xs) → Vowels (front_if b x (front true xs))
    go true e r = and_these (subst T (sym e) tt) r
    go false e r = no_letters

nucleus_vowels : (w : Letters) → Vowels (nucleus w)
unfolding nucleus
nucleus_vowels w = go (joins (before w) (run w)) (front_vowels (past false w))
  where
    go : (b : Bool) {v : Letters} → Vowels v → Vowels (nucleus_of b v)
    go false r = r
    go true no_letters = no_letters
    go true (and_these t r) = r

at_vowel : {nuc : Letters} (n : ℕ) (more : Letters) → Vowels nuc → n < length nuc → T (vowel_at n (nuc ++ more))
at_vowel n more no_letters h = absurd (omega arith)
at_vowel zero more (and_these t r) h = t
at_vowel (suc n) more (and_these t r) h = at_vowel n more r (omega arith)

after : (ini : Letters) (n : ℕ) (more : Letters) → T (vowel_at n more) → T (vowel_at (length ini + n) (ini ++ more))
after [] n more t = let e : n ≡ 0 + n = omega arith in subst (λ (m : ℕ). T (vowel_at m more)) e t
after (x ∷ xs) n more t =
    let e : suc (length xs + n) ≡ length (x ∷ xs) + n = omega arith in
    subst (λ (m : ℕ). T (vowel_at m (x ∷ (xs ++ more)))) e (after xs n more t)

-- the place within a nucleus is one of its letters
shaped_within : (nuc : Letters) (n : ℕ) → last_shaped nuc ≡ Some n → n < length nuc
shaped_within [] n e = let z : ◌≡◌ {A = ℕ} 0 1 = cc in absurd (omega arith)
shaped_within (x ∷ xs) n e = go (last_shaped xs) (shaped_within xs) (not (eqb x.shape plain)) e
  where
    go : (o : Option ℕ) → ((m : ℕ) → o ≡ Some m → m < length xs) → (b : Bool) → or_here o b ≡ Some n → n < suc (length xs)
    go (Some m) r b e = let s = r m refl in let q : suc m ≡ n = cc in omega arith
    go None r true e = let q : 0 ≡ n = cc in omega arith
    go None r false e = let z : ◌≡◌ {A = ℕ} 0 1 = cc in absurd (omega arith)

count_within : (n : ℕ) (ends : Bool) → 0 < n → by_count n ends < n
count_within n ends h = go (eqb n 3) refl (eqb n 2) refl ends
  where
    go : (p : Bool) → eqb n 3 ≡ p → (q : Bool) → eqb n 2 ≡ q → (b : Bool) → elim p [ true ↦ 1 | false ↦ elim q [ true ↦ elim b [ true ↦ 0 | false ↦ 1 ] | false ↦ 0 ] ] < n
    go true e q d b = omega (arith, eqb-true n 3 e)
    go false e true d true = omega (arith, eqb-true n 2 d)
    go false e true d false = omega (arith, eqb-true n 2 d)
    go false e false d b = h

place_within_law : (nuc : Letters) (ends : Bool) → 0 < length nuc → place_within nuc ends < length nuc
place_within_law nuc ends h = go (eqb (length nuc) 1) (last_shaped nuc) refl
  where
    go : (b : Bool) (o : Option ℕ) → last_shaped nuc ≡ o → elim b [ true ↦ 0 | false ↦ or_by_count o (by_count (length nuc) ends) ] < length nuc
    go true o e = h
    go false (Some n) e = shaped_within nuc n e
    go false None e = count_within (length nuc) ends h

some_letters : (w : Letters) → is_nil w ≡ false → 0 < length w
some_letters [] e = let z : ◌≡◌ {A = ℕ} 0 1 = cc in absurd (omega arith)
some_letters (x ∷ xs) e = omega arith

pub tone_on_a_vowel : (w : Letters) (t n : ℕ) → tone_place w t ≡ Some n → T (vowel_at n w)
unfolding tone_place
tone_on_a_vowel w t n = go (eqb t no_tone) (is_nil (nucleus w)) refl
  where
    go : (p q : Bool) → is_nil (nucleus w) ≡ q → place_unless (p || q) (length (initial w) + place_within (nucleus w) (is_nil (final w) && is_nil (leftovers w))) ≡ Some n → T (vowel_at n w)
    go true q d e = let z : ◌≡◌ {A = ℕ} 0 1 = cc in absurd (omega arith)
    go false true d e = let z : ◌≡◌ {A = ℕ} 0 1 = cc in absurd (omega arith)
    go false false d e =
        let k = place_within (nucleus w) (is_nil (final w) && is_nil (leftovers w)) in
        let m : length (initial w) + k ≡ n = cc in
        let h = place_within_law (nucleus w) (is_nil (final w) && is_nil (leftovers w)) (some_letters (nucleus w) d) in
        subst (λ (i : ℕ). T (vowel_at i w)) m
        (subst (λ (l : Letters). T (vowel_at (length (initial w) + k) l)) (whole w)
        (after (initial w) k (nucleus w ++ (final w ++ leftovers w)) (at_vowel k (final w ++ leftovers w) (nucleus_vowels w) h)))

-- so its place is one of the word's letters
vowel_within : (n : ℕ) (w : Letters) → T (vowel_at n w) → n < length w
vowel_within n [] t = absurd t
vowel_within zero (x ∷ xs) t = omega arith
vowel_within (suc n) (x ∷ xs) t = omega (arith, vowel_within n xs t)

pub place_in_word : (w : Letters) (t n : ℕ) → tone_place w t ≡ Some n → n < length w
place_in_word w t n e = vowel_within n w (tone_on_a_vowel w t n e)
