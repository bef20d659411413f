-- Demand 3, first half, of whatever the contracts allow: an open word with room for two more keys, and two keys of different families that would each act alone, typed in both orders.
use Rattle.std.specs.Prelude.{◌≡◌, Bool, true, false, not, List, [], ◌∷◌, ◌++◌, map, ℕ, ◌+◌, ◌≤◌, T, length, take, Option, Result}
use Rattle.rules.specs.TheWord.{most_keys, most_bytes, word_of, at_front}
use Rattle.rules.specs.KeyRoles.{role}
use Rattle.rules.specs.CodePoints.{shown}
use Rattle.rules.specs.Refusals.{out_of_range}
use Rattle.rules.specs.KeyPlaces.{exchanged, with_exchanged}
use Rattle.rules.specs.AnswersInNumbers.{answered, outcome_numbers, step_says, write_says, place_says, verdict_says, decision_says}
use Rattle.rules.specs.declared.Word.{Word}
use Rattle.rules.specs.declared.Role.{Role}
use Rattle.rules.specs.declared.Role.TheVariants.{ToneRole, ShapeRole, StrokeRole, NoRole}
use Rattle.rules.specs.declared.Act.{Act}
use Rattle.rules.specs.declared.Outcome.TheVariants.{Acted}
use Rattle.rules.specs.declared.Step.{Step}
use Rattle.promises.specs.ContractsAllow.{StepAllows, ShowAllows, PlaceAllows, VerdictAllows, DecisionAllows}
use Rattle.rules.specs.declared.Refusal.{Refusal}
use Rattle.rules.specs.declared.Decision.{Decision}

-- The families: tone with clear; vowel shape; stroke. A key without a role is of none.
abbrev pub differ : Role → Role → Bool
differ (ToneRole t) (ToneRole u) = false
differ (ToneRole t) (ShapeRole h) = true
differ (ToneRole t) StrokeRole = true
differ (ToneRole t) NoRole = false
differ (ShapeRole h) (ToneRole t) = true
differ (ShapeRole h) (ShapeRole i) = false
differ (ShapeRole h) StrokeRole = true
differ (ShapeRole h) NoRole = false
differ StrokeRole (ToneRole t) = true
differ StrokeRole (ShapeRole h) = true
differ StrokeRole StrokeRole = false
differ StrokeRole NoRole = false
differ NoRole (ToneRole t) = false
differ NoRole (ShapeRole h) = false
differ NoRole StrokeRole = false
differ NoRole NoRole = false

-- Any record in range that is open and has at most 30 keys, reachable or not. That its arrays have 32 places is what the language gives of every record.
pub record OpenWithRoom (w : Word) : Type 0 where
  pub letters : length w.letters ≡ most_keys
  pub by : length w.appended_by ≡ most_keys
  pub shaped_by : length w.shaped_by ≡ most_keys
  pub keys : length w.keys ≡ most_keys
  pub range : T (not (out_of_range w))
  pub open_word : w.closed ≡ false
  pub room : w.typed + 2 ≤ most_keys

-- The step's answer is that the key acted, and as what.
abbrev pub ActsAs : Step → Act → Type 0
ActsAs r a = step_says r.answer ≡ answered (outcome_numbers (Acted a))

-- What is promised of the results of both orders: `km` is k and then m, `mk` is m and then k.
pub record BothOrders (w : Word) (k m : ℕ) (a b : Act) (km mk : Step) : Type 0 where
  -- both keys act in both orders
  pub m_acts : ActsAs km b
  pub k_acts : ActsAs mk a
  -- the two words are equal in letters, tone, mark and counts: in everything but the kept keys and the places of the two keys, which are exchanged
  pub words : km.word ≡ with_exchanged w.typed mk.word km.word.keys
  -- so the letters were appended by the same keys, and shapes and tone were set by the same keys, each at its place in its order
  pub appending_places : km.word.appended_by ≡ mk.word.appended_by
  pub shaping_places : take km.word.count km.word.shaped_by ≡ map (exchanged w.typed) (take mk.word.count mk.word.shaped_by)
  pub tone_place : km.word.toned_by ≡ exchanged w.typed mk.word.toned_by
  -- the kept keys are the old keys and then the two in the order typed
  pub k_then_m : km.word.keys ≡ at_front (take w.typed w.keys ++ (k ∷ m ∷ [])) w.keys
  pub m_then_k : mk.word.keys ≡ at_front (take w.typed w.keys ++ (m ∷ k ∷ [])) w.keys
  -- the same text into any output, written where there is room for any text
  pub text : {out after after' : List ℕ} {r r' : Result ℕ Refusal} → ShowAllows km.word out r after → ShowAllows mk.word out r' after' → (write_says r ≡ write_says r') × (after ≡ after')
  pub text_written : {out after : List ℕ} {r : Result ℕ Refusal} → most_bytes ≤ length out → ShowAllows km.word out r after →
      (write_says r ≡ answered (length (shown (word_of km.word).state) ∷ [])) × (after ≡ at_front (shown (word_of km.word).state) out)
  -- the same place, verdict and decision, and none of these is a refusal
  pub place : {r r' : Result (Option ℕ) Refusal} → PlaceAllows km.word r → PlaceAllows mk.word r' → (ns : List ℕ) × (place_says r ≡ answered ns) × (place_says r' ≡ answered ns)
  pub verdict : {r r' : Result ℕ Refusal} → VerdictAllows km.word r → VerdictAllows mk.word r' → (ns : List ℕ) × (verdict_says r ≡ answered ns) × (verdict_says r' ≡ answered ns)
  pub decision : {r r' : Result Decision Refusal} → DecisionAllows km.word r → DecisionAllows mk.word r' → (ns : List ℕ) × (decision_says r ≡ answered ns) × (decision_says r' ≡ answered ns)

-- Two keys whose roles in the word's mode are of different families; each of them, typed alone, acts. Then the promise holds of any results that the contracts allow.
abbrev pub FirstHalf : Type 0
FirstHalf =
    (w : Word) (k m : ℕ) (a b : Act) (wk wm km mk : Step) → OpenWithRoom w → T (differ (role w.mode k) (role w.mode m))
    → StepAllows w k wk → ActsAs wk a → StepAllows w m wm → ActsAs wm b
    → StepAllows wk.word m km → StepAllows wm.word k mk → BothOrders w k m a b km mk
