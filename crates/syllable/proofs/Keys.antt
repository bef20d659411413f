-- The keys of a `match` against a list of numbers: the check hands over those of an arm in order of size. Assumes nothing.
use mathlib.Core.Path.{◌≡◌, refl, sym, subst, ◌∙◌}
use mathlib.Core.Bool.{Bool, true, false, ◌&&◌, ◌||◌}
use mathlib.Core.List.{List, [], ◌∷◌}
use mathlib.Core.Logic.{◌⊎◌, inl, inr, ⊎_elim}
use Prim.Native.Nat.{ℕ}
use lib.Dec.{T, ltb}
use lib.Ieee.Fits.{and_l, and_r}
use Rattle.rules.specs.Letters.{Letters, elem, one_of}
use Rattle.syllable.specs.Numbers.{nums, Packs}
use Rattle.rules.proofs.Tests.{is_true}
use Rattle.rules.proofs.Bools.{eqb_case}
use Rattle.rules.proofs.Arms.{NoneIn}
use Rattle.syllable.proofs.PackedWords.{shorts, one_is}

-- a number is one of the keys of an arm
abbrev pub Key : ℕ → List ℕ → Type 0
Key p [] = ⊥
Key p (k ∷ []) = p ≡ k
Key p (k ∷ l ∷ ls) = (p ≡ k) ⊎ Key p (l ∷ ls)

-- the numbers of some words, in order of size
abbrev put : ℕ → List ℕ → List ℕ
put k [] = k ∷ []
put k (l ∷ ls) = elim (ltb k l) [ true ↦ k ∷ l ∷ ls | false ↦ l ∷ put k ls ]

abbrev sorted : List ℕ → List ℕ
sorted [] = []
sorted (k ∷ ks) = put k (sorted ks)

abbrev pub keys : List Letters → List ℕ
keys zs = sorted (nums zs)

-- what holds of each key holds of a number that is one of them
abbrev pub every : (ℕ → Bool) → List ℕ → Bool
every f [] = true
every f (k ∷ ks) = f k && every f ks

pub holds : (f : ℕ → Bool) (p : ℕ) (ks : List ℕ) → T (every f ks) → Key p ks → T (f p)
holds f p [] t h = absurd h
holds f p (k ∷ []) t h = subst (λ (n : ℕ). T (f n)) (sym h) (and_l (f k) true t)
holds f p (k ∷ l ∷ ks) t h =
    ⊎_elim (λ e. subst (λ (n : ℕ). T (f n)) (sym e) (and_l (f k) (every f (l ∷ ks)) t)) (holds f p (l ∷ ks) (and_r (f k) (every f (l ∷ ks)) t)) h

key_of : (p : ℕ) (ks : List ℕ) → T (elem p ks) → Key p ks
key_of p [] t = t
key_of p (k ∷ []) t = eqb_case (λ b. T b → p ≡ k) p k (λ e _. e) (λ _ t. absurd t) t
key_of p (k ∷ l ∷ ks) t = eqb_case (λ b. T (b || elem p (l ∷ ks)) → Key p (k ∷ l ∷ ks)) p k (λ e _. inl e) (λ _ t. inr (key_of p (l ∷ ks) t)) t

-- a number is a key of some arm
abbrev pub in_arm : List (List ℕ) → ℕ → Bool
in_arm [] k = false
in_arm (ks ∷ kss) k = elim (elem k ks) [ true ↦ true | false ↦ in_arm kss k ]

not_in : (p : ℕ) (kss : List (List ℕ)) → NoneIn (Key p) kss → T (in_arm kss p) → ⊥
not_in p [] h t = t
not_in p (ks ∷ kss) h t = go (elem p ks) refl t (not_in p kss h.1)
  where
    go : (b : Bool) → elem p ks ≡ b → T (elim b [ true ↦ true | false ↦ in_arm kss p ]) → (T (in_arm kss p) → ⊥) → ⊥
    go true e t r = h.0 (key_of p ks (subst T (sym e) tt))
    go false e t r = r t

-- a match on a list of numbers
abbrev pub is_in : List ℕ → ℕ → Bool
is_in ls k = elem k ls

pub is_elem : (p : ℕ) (ls ks : List ℕ) → T (every (is_in ls) ks) → Key p ks → true ≡ elem p ls
is_elem p ls ks t h = sym (is_true (elem p ls) (holds (is_in ls) p ks t h))

pub no_elem : (p : ℕ) (ls : List ℕ) (kss : List (List ℕ)) → T (every (in_arm kss) ls) → NoneIn (Key p) kss → false ≡ elem p ls
no_elem p ls kss t n = go (elem p ls) refl
  where
    go : (b : Bool) → elem p ls ≡ b → false ≡ elem p ls
    go false e = sym e
    go true e = absurd (not_in p kss n (holds (in_arm kss) p ls t (key_of p ls (subst T (sym e) tt))))

-- and on a table of words, of letters that have this number
module _ {p : ℕ} {w : Letters} (c : Packs p w) (zs : List Letters) (s : T (shorts zs)) where
  pub is_one : (ks : List ℕ) → T (every (is_in (nums zs)) ks) → Key p ks → true ≡ one_of w zs
  is_one ks t h = is_elem p (nums zs) ks t h ∙ one_is c zs s

  pub no_one : (kss : List (List ℕ)) → T (every (in_arm kss) (nums zs)) → NoneIn (Key p) kss → false ≡ one_of w zs
  no_one kss t h = no_elem p (nums zs) kss t h ∙ one_is c zs s
