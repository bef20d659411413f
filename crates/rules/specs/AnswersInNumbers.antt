-- 3 Answers in numbers (docs/RULES.md): each answer as a refusal with the number returned, or as the values that it holds.
use Rattle.std.specs.Prelude.{List, [], ◌∷◌, ℕ, Option, Some, None, Result, Ok, Err, ⊤}
use Rattle.rules.specs.declared.Act.TheVariants.{Tone, Shape, Stroke, Clear}
use Rattle.rules.specs.declared.Outcome.{Outcome}
use Rattle.rules.specs.declared.Outcome.TheVariants.{Acted, Undone, Appended}
use Rattle.rules.specs.declared.Decision.{Decision}
use Rattle.rules.specs.declared.Decision.TheVariants.{Keep, Restore}
use Rattle.rules.specs.declared.Refusal.{Refusal}

-- 3.1 In numbers an answer is one of two things: a refusal, with its number and the number returned, or a list of
-- values.
pub data Says : Type 0 where
  refused : ℕ → ℕ → Says
  answered : List ℕ → Says

abbrev pub refusing : Refusal → Says
refusing r = refused r.number r.value

-- 3.2 What a key did has a number from 1 to 6. Behind 1 stands the tone that was set, behind 2 the shape.
abbrev pub outcome_numbers : Outcome → List ℕ
outcome_numbers (Acted (Tone t)) = 1 ∷ t ∷ []
outcome_numbers (Acted (Shape sh)) = 2 ∷ sh ∷ []
outcome_numbers (Acted Stroke) = 3 ∷ []
outcome_numbers (Acted Clear) = 4 ∷ []
outcome_numbers Undone = 5 ∷ []
outcome_numbers Appended = 6 ∷ []

-- 3.3 A place is its own number; nowhere has no value.
abbrev pub place_numbers : Option ℕ → List ℕ
place_numbers (Some n) = n ∷ []
place_numbers None = []

-- 3.4 Keep is 0, restore is 1.
abbrev pub decision_number : Decision → ℕ
decision_number Keep = 0
decision_number Restore = 1

-- 3.5 Each entry answers with values of its own; a refusal reads the same for all.
abbrev pub start_says : Result ⊤ Refusal → Says
start_says (Ok tt) = answered []
start_says (Err r) = refusing r

abbrev pub step_says : Result Outcome Refusal → Says
step_says (Ok o) = answered (outcome_numbers o)
step_says (Err r) = refusing r

abbrev pub type_says : Result ⊤ Refusal → Says
type_says (Ok tt) = answered []
type_says (Err r) = refusing r

abbrev pub write_says : Result ℕ Refusal → Says
write_says (Ok n) = answered (n ∷ [])
write_says (Err r) = refusing r

abbrev pub place_says : Result (Option ℕ) Refusal → Says
place_says (Ok p) = answered (place_numbers p)
place_says (Err r) = refusing r

abbrev pub verdict_says : Result ℕ Refusal → Says
verdict_says (Ok v) = answered (v ∷ [])
verdict_says (Err r) = refusing r

abbrev pub decision_says : Result Decision Refusal → Says
decision_says (Ok d) = answered (decision_number d ∷ [])
decision_says (Err r) = refusing r

abbrev pub commit_says : Result ⊤ Refusal → Says
commit_says (Ok tt) = answered []
commit_says (Err r) = refusing r
