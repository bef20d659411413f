-- `syllable::verdict` meets its contract: it is what is asked where the nucleus is not free.
use Rattle.rules.specs.TakingApart.{verdict}
use Rattle.syllable.specs.Checks.{first_fault}
use Rattle.syllable.proofs.verdict.Goals as goal

pub ask-requires : goal.ask-requires
ask-requires c = tt

pub returns : goal.returns
unfolding verdict first_fault
returns c = c.ask.ensures
