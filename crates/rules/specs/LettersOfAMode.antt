-- 18 Letters of a mode (docs/RULES.md): letters that a word of the mode can hold, by refusal 8.
use Rattle.std.specs.Prelude.{[], ◌∷◌, ℕ, T}
use Rattle.rules.specs.Letters.{Letter, Letters}
use Rattle.rules.specs.Refusals.{base_allowed, shape_carried, no_capital_digit}

-- 18.1 A letter is one that a word of the mode can hold when its base is the mode's, it can carry its shape, and it is no digit with the mark of a capital.
pub record Fine (mode : ℕ) (x : Letter) : Type 0 where
  pub allowed : T (base_allowed mode x)
  pub carried : T (shape_carried x)
  pub digit : T (no_capital_digit x)

-- 18.2 All letters of a word are such letters.
pub data AllFine (mode : ℕ) : Letters → Type 0 where
  no_letters : AllFine mode []
  and_these : {x : Letter} {xs : Letters} → Fine mode x → AllFine mode xs → AllFine mode (x ∷ xs)
