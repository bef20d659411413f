-- `lines::Line::spelled` meets its contract: the refusal's line, or the keys that the speller put in front and a newline behind them.
use Prim.Native.Nat.{◌≤◌}
use native.Mathlib.Omega.{arith}
use lib.ListN.{length}
use Rattle.lines.specs.Appending.{most_in_line}
use Rattle.lines.proofs.Columns.{as_part, from_start, keys_put}
use Rattle.lines.proofs.Spelled.{text_small, refuses, spelled}
use Rattle.lines.proofs.line.Line.spelled.Goals as goal

pub refused-requires : goal.refused-requires
refused-requires c =
    let room : most_in_line ≤ length c.args.self.now.text = omega arith in
    let q = refuses c.args.mode c.args.syllable.now c.args.self.now.text room c.spell-answer.result _ c.spell-answer.ensures.0 c.spell-answer.ensures.1 _ c.in-Err.is in
    (c.requires, text_small c.args.mode c.args.syllable.now _ q.why)

pub invariant_of-self-in-Ok : goal.invariant_of-self-in-Ok
invariant_of-self-in-Ok c =
    let room : most_in_line ≤ length c.args.self.now.text = omega arith in
    let q = spelled c.args.mode c.args.syllable.now c.args.self.now.text room c.spell-answer.result _ c.spell-answer.ensures.0 c.spell-answer.ensures.1 _ c.in-Ok.is in
    record { within = omega (arith, q.few) }

pub append-requires : goal.append-requires
append-requires c =
    let room : most_in_line ≤ length c.args.self.now.text = omega arith in
    let q = spelled c.args.mode c.args.syllable.now c.args.self.now.text room c.spell-answer.result _ c.spell-answer.ensures.0 c.spell-answer.ensures.1 _ c.in-Ok.is in
    omega (arith, q.few)

pub returns-in-Err : goal.returns-in-Err
returns-in-Err c =
    let room : most_in_line ≤ length c.args.self.now.text = omega arith in
    let q = refuses c.args.mode c.args.syllable.now c.args.self.now.text room c.spell-answer.result _ c.spell-answer.ensures.0 c.spell-answer.ensures.1 _ c.in-Err.is in
    from_start c.requires c.requires (as_part q.line c.refused.ensures)

pub returns-in-Ok : goal.returns-in-Ok
returns-in-Ok c =
    let room : most_in_line ≤ length c.args.self.now.text = omega arith in
    let q = spelled c.args.mode c.args.syllable.now c.args.self.now.text room c.spell-answer.result _ c.spell-answer.ensures.0 c.spell-answer.ensures.1 _ c.in-Ok.is in
    keys_put _ _ c.requires q.line (omega (arith, q.inside)) c.append.ensures.moved c.append.ensures.front
