-- `letters::one_byte` meets its contract: an ASCII letter, or none.
use Rattle.letters.proofs.Decodes.{is_one, no_one}
use Rattle.letters.proofs.one_byte.Goals as goal

pub returns-then-is_key : goal.returns-then-is_key
returns-then-is_key c = is_one c.args.first c.is_key.ensures c.if-is_key.true c.letter_of_key.ensures

pub returns : goal.returns
returns c = no_one c.args.first c.is_key.ensures c.if-is_key.false
