-- `felcantuzza::act_number` meets its contract: each arm is its kind.
use mathlib.Core.Path.{sym, ap}
use Rattle.rules.specs.AnswersInNumbers.{outcome_numbers}
use Rattle.rules.specs.declared.Act.{Act}
use Rattle.rules.specs.declared.Outcome.TheVariants.{Acted}
use Rattle.felcantuzza.specs.Calls.{in_one}
use Rattle.felcantuzza.proofs.act_number.Goals as goal

pub returns-in-Tone : goal.returns-in-Tone
returns-in-Tone c = sym (ap (λ (a : Act). in_one (outcome_numbers (Acted a))) c.in-Tone.is)

pub returns-in-Shape : goal.returns-in-Shape
returns-in-Shape c = sym (ap (λ (a : Act). in_one (outcome_numbers (Acted a))) c.in-Shape.is)
