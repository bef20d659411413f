-- `show::text` meets its contract: refused, or the text made and written.
use mathlib.Core.Path.{sym, ap, ◌∙◌}
use native.Mathlib.Omega.{arith}
use Rattle.rules.specs.WhatComesBack.{Written}
use Rattle.show.proofs.Answers.{too_many, put_so, made_there}
use Rattle.show.proofs.text.Goals as goal

pub returns-then-letters-gt-KEYS : goal.returns-then-letters-gt-KEYS
returns-then-letters-gt-KEYS c =
    let args = c.args in
    let e = too_many args.letters.now args.tone args.out.now c.if-letters-gt-KEYS.true in
    (c.refuse.ensures ∙ sym (ap (λ (x : Written). x.answer) e), sym (ap (λ (x : Written). x.output) e))

pub returns-then-out-ge-TEXT : goal.returns-then-out-ge-TEXT
returns-then-out-ge-TEXT c =
    let args = c.args in
    let e = made_there args.letters.now args.tone args.out.now c.if-letters-gt-KEYS.false c.in_room.result c.if-out-ge-TEXT.true c.in_room.ensures.0 _ c.in_room.ensures.1 in
    (sym (ap (λ (x : Written). x.answer) e), sym (ap (λ (x : Written). x.output) e))

pub returns : goal.returns
returns c =
    let args = c.args in
    let same = put_so args.letters.now args.tone args.out.now _ c.in_room-needed.new.out c.in_room-needed.result c.if-letters-gt-KEYS.false (omega arith) c.in_room-needed.ensures.0 c.in_room-needed.ensures.1 in
    (c.write.ensures.0 ∙ ap (λ (x : Written). x.answer) same, c.write.ensures.1 ∙ ap (λ (x : Written). x.output) same)
