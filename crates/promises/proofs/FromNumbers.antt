-- An answer in numbers is of one answer only: what is said in the numbers of what a key did, of something written or of something granted is that answer.
use Rattle.std.specs.Prelude.{Result, Ok, Err, ⊤}
use mathlib.Core.Path.{◌≡◌, refl, sym, ap, ◌∙◌}
use mathlib.Core.List.{List, [], ◌∷◌}
use Prim.Native.Nat.{ℕ, zero, suc}
use native.Mathlib.Omega.{arith}
use Rattle.rules.specs.AnswersInNumbers.{Says, refused, answered, outcome_numbers, step_says, write_says, commit_says}
use Rattle.rules.specs.declared.Act.TheVariants.{Tone, Shape, Stroke, Clear}
use Rattle.rules.specs.declared.Outcome.{Outcome}
use Rattle.rules.specs.declared.Outcome.TheVariants.{Acted, Undone, Appended}
use Rattle.rules.specs.declared.Refusal.{Refusal}

-- what a key did, from its numbers
abbrev outcome_from : List ℕ → Outcome
outcome_from [] = Appended
outcome_from (zero ∷ ns) = Appended
outcome_from (suc zero ∷ []) = Appended
outcome_from (suc zero ∷ t ∷ ns) = Acted (Tone t)
outcome_from (suc (suc zero) ∷ []) = Appended
outcome_from (suc (suc zero) ∷ sh ∷ ns) = Acted (Shape sh)
outcome_from (suc (suc (suc zero)) ∷ ns) = Acted Stroke
outcome_from (suc (suc (suc (suc zero))) ∷ ns) = Acted Clear
outcome_from (suc (suc (suc (suc (suc zero)))) ∷ ns) = Undone
outcome_from (suc (suc (suc (suc (suc (suc n))))) ∷ ns) = Appended

from_numbers : (o : Outcome) → outcome_from (outcome_numbers o) ≡ o
from_numbers (Acted (Tone t)) = refl
from_numbers (Acted (Shape sh)) = refl
from_numbers (Acted Stroke) = refl
from_numbers (Acted Clear) = refl
from_numbers Undone = refl
from_numbers Appended = refl

abbrev values : Says → List ℕ
values (answered ns) = ns
values (refused n v) = []

pub did_as : (s : Result Outcome Refusal) (o : Outcome) → step_says s ≡ answered (outcome_numbers o) → s ≡ Ok o
did_as (Ok x) o e = ap (λ (y : Outcome). Ok y) (sym (from_numbers x) ∙ ap (λ (y : Says). outcome_from (values y)) e ∙ from_numbers o)
did_as (Err x) o e = let z : ◌≡◌ {A = ℕ} 0 1 = cc in absurd (omega arith)

pub wrote_as : (r : Result ℕ Refusal) (n : ℕ) → write_says r ≡ answered (n ∷ []) → r ≡ Ok n
wrote_as (Ok m) n e = let f : m ≡ n = cc in ap (λ (k : ℕ). Ok k) f
wrote_as (Err x) n e = let z : ◌≡◌ {A = ℕ} 0 1 = cc in absurd (omega arith)

pub granted_as : (c : Result ⊤ Refusal) → commit_says c ≡ answered [] → c ≡ Ok tt
granted_as (Ok tt) e = refl
granted_as (Err x) e = let z : ◌≡◌ {A = ℕ} 0 1 = cc in absurd (omega arith)
