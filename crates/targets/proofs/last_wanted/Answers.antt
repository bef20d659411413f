-- `targets::last_wanted` meets its contract: no letter behind the one found is wanted.
use Rattle.std.proofs.Common.{rules}
use Rattle.std.proofs.iter.runs.Made.{chains}
use Rattle.targets.specs.Places.{wanted}
use Rattle.rules.proofs.Searches.{IsLastPlace}
use Rattle.targets.proofs.Turns.{wants_letter, last_found}
use Rattle.targets.proofs.last_wanted.Goals as goal

pub returns : goal.returns
returns c =
    let last : IsLastPlace (wants_letter (wanted c.args.key)) c.args.letters.now c.rposition.result = search (rules, chains) in
    last_found (wanted c.args.key) c.args.letters.now c.rposition.result last
