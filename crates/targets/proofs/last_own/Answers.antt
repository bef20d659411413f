-- `targets::last_own` meets its contract: no letter behind the one found is wanted.
use Rattle.std.proofs.Common.{rules}
use Rattle.std.proofs.iter.runs.Made.{chains}
use Rattle.rules.specs.KeyRoles.{own}
use Rattle.rules.proofs.Searches.{IsLastPlace}
use Rattle.targets.proofs.Turns.{wants_letter, last_found}
use Rattle.targets.proofs.last_own.Goals as goal

pub returns : goal.returns
returns c =
    let last : IsLastPlace (wants_letter (own c.args.own)) c.args.letters.now c.rposition.result = search (rules, chains) in
    last_found (own c.args.own) c.args.letters.now c.rposition.result last
