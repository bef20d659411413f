-- `letters::vowels::point` meets its contract: the code's table is the definition's, row for row.
use Rattle.letters.proofs.Points.{at_row}
use Rattle.letters.proofs.vowels.point.Goals as goal

pub returns : goal.returns
returns c = at_row c.args.row c.args.tone c.requires.0 c.requires.1
