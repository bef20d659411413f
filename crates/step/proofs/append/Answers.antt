-- `step::append` meets its contract: the letter is stored after the last.
use Rattle.rules.specs.KeyRoles.{letter_of_key}
use Rattle.step.proofs.States.{appends}
use Rattle.step.proofs.append.Goals as goal

pub returns : goal.returns
returns c = appends c.args.letters.now c.args.rest c.requires (letter_of_key c.args.key) c.letter_of_key.result c.letter_of_key.ensures
