-- Demand 3, second half, of whatever the contracts allow: for each valid syllable its bare letters, then its stroke, shape and tone keys in any order, give that syllable.
use Rattle.std.specs.Prelude.{◌≡◌, List, [], ◌∷◌, ◌++◌, map, ℕ, ◌≤◌, ◌<◌, T, length, Result}
use Rattle.rules.specs.Letters.{Letters}
use Rattle.rules.specs.TheWord.{word_of, at_front}
use Rattle.rules.specs.KeyRoles.{lower}
use Rattle.rules.specs.CodePoints.{shown}
use Rattle.rules.specs.Speller.{tone_keys}
use Rattle.rules.specs.Refusals.{is_mode}
use Rattle.rules.specs.AnswersInNumbers.{refused, answered, decision_number, type_says, write_says, verdict_says, decision_says}
use Rattle.rules.specs.declared.TypeAll.{TypeAll}
use Rattle.rules.specs.declared.Decision.TheVariants.{Keep}
use Rattle.rules.specs.Syllables.{Syllable, open_word, bare_keys, mark_keys, Order}
use Rattle.promises.specs.ContractsAllow.{TypeAllows, ShowAllows, VerdictAllows, DecisionAllows}
use Rattle.rules.specs.declared.Refusal.{Refusal}
use Rattle.rules.specs.declared.Decision.{Decision}

-- The result of typing a list is this syllable: its letters in their case, its tone, open; show writes its text where there is room for it, the verdict is 0 and the decision keep.
pub record IsSyllable (r : TypeAll) (w : Letters) (t : ℕ) : Type 0 where
  pub answer : type_says r.answer ≡ answered []
  pub state : (word_of r.word).state ≡ open_word w t
  pub text : {before after : List ℕ} {a : Result ℕ Refusal} → length (shown (open_word w t)) ≤ length before → ShowAllows r.word before a after →
      (write_says a ≡ answered (length (shown (open_word w t)) ∷ [])) × (after ≡ at_front (shown (open_word w t)) before)
  pub no_room : {before after : List ℕ} {a : Result ℕ Refusal} → length before < length (shown (open_word w t)) → ShowAllows r.word before a after →
      (write_says a ≡ refused 4 (length (shown (open_word w t)))) × (after ≡ before)
  pub verdict : {v : Result ℕ Refusal} → VerdictAllows r.word v → verdict_says v ≡ answered (0 ∷ [])
  pub decision : {d : Result Decision Refusal} → DecisionAllows r.word d → decision_says d ≡ answered (decision_number Keep ∷ [])

-- Each valid syllable in both modes and every mix of capitals; the added keys in either case and any order.
abbrev pub SecondHalf : Type 0
SecondHalf =
    (m : ℕ) → T (is_mode m) → (w : Letters) (t : ℕ) → Syllable w t → (ks : List ℕ) → Order (tone_keys m t ++ mark_keys m w) (map lower ks)
    → (r : TypeAll) → TypeAllows m (bare_keys w ++ ks) r → IsSyllable r w t
