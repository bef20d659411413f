-- Appending, of whatever the contract of step allows: of any record, a key that is appended changes an earlier letter in one case alone, and there only the shape of a u (19 of docs/RULES.md).
use Rattle.std.specs.Prelude.{◌≡◌, ℕ}
use Rattle.rules.specs.TheWord.{word_of}
use Rattle.rules.specs.KeyRoles.{letter_of_key}
use Rattle.rules.specs.AnswersInNumbers.{answered, outcome_numbers, step_says}
use Rattle.rules.specs.Appending.{OneCase}
use Rattle.rules.specs.declared.Word.{Word}
use Rattle.rules.specs.declared.Outcome.TheVariants.{Appended}
use Rattle.rules.specs.declared.Step.{Step}
use Rattle.promises.specs.ContractsAllow.{StepAllows}

abbrev pub AppendedKey : Type 0
AppendedKey = (w : Word) (k : ℕ) (r : Step) → StepAllows w k r → step_says r.answer ≡ answered (outcome_numbers Appended) → OneCase (word_of w).state (letter_of_key k) (word_of r.word).state
