-- `output::write` meets its contract: refusal 4, or the text copied to the front.
use mathlib.Core.Path.{ap, sym, ◌∙◌}
use mathlib.Core.List.{List, ◌++◌}
use Prim.Native.Nat.{ℕ}
use native.Mathlib.Numerals.{unary_clauses}
use lib.ListN.{length, drop}
use Rattle.rules.specs.WhatComesBack.{Written}
use Rattle.output.proofs.Rooms.{no_room, has_room}
use Rattle.output.proofs.write.Goals as goal

pub returns-then-out-needed : goal.returns-then-out-needed
returns-then-out-needed c =
    let e = no_room c.args.text.now c.args.out.now c.if-out-needed.true in
    (c.refuse.ensures ∙ sym (ap (λ (x : Written). x.answer) e), sym (ap (λ (x : Written). x.output) e))

pub returns : goal.returns
returns c =
    let e = has_room c.args.text.now c.args.out.now c.if-out-needed.false in
    simp unary_clauses (
      sym (ap (λ (x : Written). x.answer) e),
      ap (λ (l : List ℕ). l ++ drop (length c.args.text.now) c.args.out.now) c.copy_from_slice.ensures.after ∙ sym (ap (λ (x : Written). x.output) e),
    )
