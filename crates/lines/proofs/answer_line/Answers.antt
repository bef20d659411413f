-- `lines::answer_line` meets its contract: the line that the program makes, put into the output.
use mathlib.Core.Path.{◌≡◌, ap, ◌∙◌}
use mathlib.Core.List.{List}
use Prim.Native.Nat.{ℕ}
use Rattle.rules.specs.WhatComesBack.{Written}
use Rattle.output.specs.Front.{put}
use Rattle.lines.specs.Appending.{held}
use Rattle.lines.specs.Programs.{answer_of}
use Rattle.lines.proofs.Columns.{whole_line}
use Rattle.lines.proofs.Starts.{by_start}
use Rattle.lines.proofs.answer_line.Goals as goal
use Rattle.lines.proofs.answer_line.Goals.{in-Drill, in-DrillWithKeys, in-Spell}

pub returns : goal.returns
returns c =
    let program = c.args.program in
    let line = c.args.line.now in
    let start = c.mode_of-mode.ensures in
    let rest = c.behind_start-rest.ensures in
    let empty = c.new-answer.ensures in
    let text : held c.match-program.answer ≡ answer_of program line = elim c.match-program.branch [
      | in-Drill w ↦ ap held w.answer-is ∙ whole_line empty w.keys_line.ensures ∙ by_start line w.in-Drill.is start rest
      | in-DrillWithKeys w ↦ ap held w.answer-is ∙ whole_line empty w.keys_line-in-DrillWithKeys.ensures ∙ by_start line w.in-DrillWithKeys.is start rest
      | in-Spell w ↦ ap held w.answer-is ∙ whole_line empty w.spelled.ensures ∙ by_start line w.in-Spell.is start rest
    ] in
    let e = ap (λ (l : List ℕ). put l c.args.out.now) (c.held.ensures ∙ text) in
    (c.write.ensures.0 ∙ ap (λ (x : Written). x.answer) e, c.write.ensures.1 ∙ ap (λ (x : Written). x.output) e)
