-- `parts::place_within` meets its contract: a single letter, the last shaped letter, or the place by the count.
use Rattle.std.proofs.Common.{rules, arith, ◌∙◌}
use Rattle.std.proofs.iter.runs.Made.{chains}
use Rattle.rules.proofs.Searches.{IsLastPlace}
use Rattle.parts.proofs.Places.{is_shaped, single, several, no_further}
use Rattle.parts.proofs.place_within.Goals as goal

pub returns-then-nuc-eq1 : goal.returns-then-nuc-eq1
returns-then-nuc-eq1 c = (single c.args.nuc.now c.args.ends c.if-nuc-eq1.true, omega arith)

pub returns : goal.returns
returns c =
    let last : IsLastPlace is_shaped c.args.nuc.now c.rposition.result = search (rules, chains) in
    (c.unwrap_or.ensures ∙ several c.args.nuc.now c.args.ends c.if-nuc-eq1.false c.rposition.result last _ c.by_count.ensures.0, rw c.unwrap_or.ensures (no_further _ c.rposition.result last _ c.by_count.ensures.1))
