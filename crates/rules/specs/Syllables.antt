-- 17 Valid syllables (docs/RULES.md): the words in which the promises speak of each valid syllable.
use Rattle.std.specs.Prelude.{◌≡◌, false, List, [], ◌∷◌, ◌++◌, map, ℕ, ◌≤◌}
use Rattle.rules.specs.Letters.{Letters, dot}
use Rattle.rules.specs.TakingApart.{verdict}
use Rattle.rules.specs.TheWord.{State}
use Rattle.rules.specs.CodePoints.{shown}
use Rattle.rules.specs.Speller.{key_of_letter, keys_after}

-- 17.1 A valid syllable is letters, in any case, and a tone from 0 to 5, with verdict 0.
pub record Syllable (w : Letters) (t : ℕ) : Type 0 where
  pub valid : verdict w t ≡ 0
  pub tone : t ≤ dot

-- 17.2 The word of a syllable has its letters and its tone, and is open.
abbrev pub open_word : Letters → ℕ → State
open_word w t = record { letters = w; tone = t; closed = false }

-- 17.3 The keys of its bare letters: each letter's own key, in its case.
abbrev pub bare_keys : Letters → List ℕ
bare_keys w = map key_of_letter w

-- 17.4 Its stroke and shape keys, those that its letters have, as in the standard list: ươ has one horn key.
abbrev pub mark_keys : ℕ → Letters → List ℕ
mark_keys mode [] = []
mark_keys mode (x ∷ xs) = keys_after mode x xs ++ mark_keys mode xs

-- 17.5 The same keys in another order: first any one of them, then the rest in any order.
pub data Picks {A : Type 0} (x : A) : List A → List A → Type 0 where
  this_one : {xs : List A} → Picks x (x ∷ xs) xs
  a_later_one : {y : A} {xs ys : List A} → Picks x xs ys → Picks x (y ∷ xs) (y ∷ ys)

pub data Order {A : Type 0} : List A → List A → Type 0 where
  all_taken : Order [] []
  first_this : {x : A} {xs ys zs : List A} → Picks x xs ys → Order ys zs → Order xs (x ∷ zs)

-- 17.6 A text is shown by a syllable when the word of some valid syllable shows it.
pub record ShownBySyllable (text : List ℕ) : Type 0 where
  pub letters : Letters
  pub tone : ℕ
  pub syllable : Syllable letters tone
  pub as_shown : text ≡ shown (open_word letters tone)
