-- Demand 2, the other way, of whatever the contracts allow: every valid syllable as shown is spelled into its one standard key list, and typing that list shows the syllable again; and nothing else is spelled.
use Rattle.std.specs.Prelude.{◌≡◌, List, [], ◌∷◌, ℕ, ◌≤◌, T, length, take, Result}
use Rattle.rules.specs.Letters.{Letters}
use Rattle.rules.specs.TheWord.{at_front}
use Rattle.rules.specs.CodePoints.{shown}
use Rattle.rules.specs.Speller.{standard_keys}
use Rattle.rules.specs.Refusals.{is_mode}
use Rattle.rules.specs.AnswersInNumbers.{answered, write_says}
use Rattle.rules.specs.declared.TypeAll.{TypeAll}
use Rattle.rules.specs.Syllables.{Syllable, open_word, ShownBySyllable}
use Rattle.promises.specs.ContractsAllow.{TypeAllows, SpellAllows}
use Rattle.promises.specs.EachSyllable.{IsSyllable}
use Rattle.rules.specs.declared.Refusal.{Refusal}

-- What is promised of the speller's result on the text of a syllable.
pub record Spelled (m : ℕ) (w : Letters) (t : ℕ) (before : List ℕ) (r : Result ℕ Refusal) (after : List ℕ) : Type 0 where
  -- the standard list at the front of the output, at most 9 keys, and the rest as it was
  pub answer : write_says r ≡ answered (length (standard_keys m w t) ∷ [])
  pub output : after ≡ at_front (standard_keys m w t) before
  pub few : length (standard_keys m w t) ≤ 9
  -- typing it gives the syllable, which shows the same text
  pub again : (x : TypeAll) → TypeAllows m (standard_keys m w t) x → IsSyllable x w t

-- Every valid syllable in either mode and every mix of capitals, with room for its list.
abbrev pub SpelledBack : Type 0
SpelledBack =
    (m : ℕ) → T (is_mode m) → (w : Letters) (t : ℕ) → Syllable w t → (before after : List ℕ) (r : Result ℕ Refusal) → length (standard_keys m w t) ≤ length before
    → SpellAllows m (shown (open_word w t)) before r after → Spelled m w t before r after

-- The keys that were written, into whatever output: two texts for which they are the same are one text.
abbrev pub OneList : Type 0
OneList =
    (m : ℕ) (text text' before before' after after' : List ℕ) (r r' : Result ℕ Refusal) (n n' : ℕ) → SpellAllows m text before r after → write_says r ≡ answered (n ∷ [])
    → SpellAllows m text' before' r' after' → write_says r' ≡ answered (n' ∷ []) → take n after ≡ take n' after' → text ≡ text'

-- Whatever is spelled, in whatever mode and output, is the shown text of a valid syllable.
abbrev pub OnlySyllables : Type 0
OnlySyllables = (m : ℕ) (text before after : List ℕ) (r : Result ℕ Refusal) (n : ℕ) → SpellAllows m text before r after → write_says r ≡ answered (n ∷ []) → ShownBySyllable text
