-- `targets::is_none_k_t` meets its contract: by whether there is no letter, one, or more.
use Rattle.std.proofs.Common.{arith}
use Rattle.targets.proofs.Ends.{more_than_one}
use Rattle.targets.proofs.is_none_k_t.Goals as goal

pub returns-in_default : goal.returns-in_default
returns-in_default c = more_than_one c.args.letters.now (omega arith)
