-- `stream::finish` meets its contract: no line, or the answer to the last one.
use mathlib.Core.Path.{◌≡◌, ap, ◌∙◌}
use mathlib.Core.List.{List}
use Prim.Native.Nat.{ℕ}
use native.Mathlib.Omega.{arith}
use lib.ListN.{length}
use Rattle.rules.specs.WhatComesBack.{Written}
use Rattle.lines.specs.Programs.{line_answer}
use Rattle.stream.specs.Feeding.{most_kept, line_of}
use Rattle.stream.proofs.Bytes.{some_line, some_kept}
use Rattle.stream.proofs.finish.Goals as goal

pub returns : goal.returns
returns c =
    let state = c.args.state in
    let out = c.args.out.now in
    let long : length state.line ≡ most_kept = omega arith in
    let e = ap (λ (l : List ℕ). line_answer state.program l out) c.held.ensures ∙ some_line state.program (line_of state) out (some_kept state long c.if-state-eq0.false) in
    (c.answer_line.ensures.0 ∙ ap (λ (x : Written). x.answer) e, c.answer_line.ensures.1 ∙ ap (λ (x : Written). x.output) e)
