-- `replay::line_of` meets its contract: what is made of the word's letters or copied of its keys is what its decision hands back, and the line follows from it.
use native.Mathlib.Omega.{arith}
use Rattle.rules.proofs.Range.{few_letters}
use Rattle.replay.proofs.Lines.{few_typed, its_decision, its_room, its_done, its_front}
use Rattle.replay.proofs.line_of.Goals as goal

pub shared_ref_as_front-letters : goal.shared_ref_as_front-letters
shared_ref_as_front-letters c = omega (arith, few_letters c.args.w c.requires)

pub shared_ref_as_front-keys : goal.shared_ref_as_front-keys
shared_ref_as_front-keys c = omega (arith, few_typed c.args.w c.requires)

-- what is committed leaves room for the newline
pub bounds-line-n : goal.bounds-line-n
bounds-line-n c =
    let d = its_decision c.args.w c.requires _ _ c.verdict-verdict.ensures c.decided-decision.ensures in
    let e = c.committed_text-n.ensures in
    omega (arith, its_room c.args.w c.requires _ d _ e.2 _ e.0)

pub returns : goal.returns
returns c =
    let d = its_decision c.args.w c.requires _ _ c.verdict-verdict.ensures c.decided-decision.ensures in
    let e = c.committed_text-n.ensures in
    (its_done c.args.w c.requires _ d _ e.2 _ e.0 _ e.1, its_front c.args.w c.requires _ d _ e.2 _ e.0 _ e.1)
