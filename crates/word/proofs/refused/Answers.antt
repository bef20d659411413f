-- `word::refused` meets its contract.
use Rattle.std.specs.Prelude.{Err}
use mathlib.Core.Path.{ap}
use Rattle.rules.specs.declared.Word.{Word}
use Rattle.word.proofs.refused.Goals as goal

pub returns : goal.returns
returns c = let args = c.args in ap (λ (w : Word). record { answer = Err (record { number = args.number; value = args.value }); word = w }) c.telex.ensures
