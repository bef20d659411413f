-- `parts::run` meets its contract: it stops at the first letter of another kind.
use Rattle.std.proofs.Common.{rules, sym, ◌∙◌}
use Rattle.std.proofs.iter.runs.Made.{chains}
use Rattle.rules.proofs.Searches.{IsFirstPlace, first_or_length}
use Rattle.parts.proofs.Runs.{other, run_length}
use Rattle.parts.proofs.run.Goals as goal

pub returns-clause-long : goal.returns-clause-long
returns-clause-long c =
    let first : IsFirstPlace (other c.args.vowels) c.args.s.now c.position.result = search (rules, chains) in
    c.unwrap_or.ensures ∙ first_or_length _ _ c.position.result first ∙ sym (run_length c.args.vowels c.args.s.now)
