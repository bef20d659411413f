-- `speller::spell` meets its contract: each refusal is the row of its test, and past them all the standard keys are written.
use mathlib.Core.Path.{◌≡◌, sym, ap, ◌∙◌}
use mathlib.Core.Bool.{not, false}
use native.Mathlib.Omega.{arith}
use Rattle.rules.specs.Refusals.{is_mode}
use Rattle.rules.specs.WhatComesBack.{Written}
use Rattle.speller.proofs.Answers.{letters_are, with_capitals, few_letters, refuses, no_mode, too_long, stuck_there, faulty, spelt}
use Rattle.speller.proofs.spell.Goals as goal

pub returns-then-not-is_mode : goal.returns-then-not-is_mode
returns-then-not-is_mode c = refuses c.refuse.ensures (no_mode c.args.mode c.args.text.now c.args.out.now (ap not (sym c.is_mode.ensures ∙ c.if-not-is_mode.true)))

pub returns-then-n-gt-TEXT : goal.returns-then-n-gt-TEXT
returns-then-n-gt-TEXT c =
    let mode : not (is_mode c.args.mode) ≡ false = ap not (sym c.is_mode.ensures ∙ c.if-not-is_mode.false) in
    refuses c.refuse-then-n-gt-TEXT.ensures (too_long c.args.mode c.args.text.now c.args.out.now mode (omega arith))

pub returns-then-r-n : goal.returns-then-r-n
returns-then-r-n c =
    let mode : not (is_mode c.args.mode) ≡ false = ap not (sym c.is_mode.ensures ∙ c.if-not-is_mode.false) in
    refuses c.refuse-then-r-n.ensures (stuck_there c.args.mode c.args.out.now mode c.if-n-gt-TEXT.false c.read-r.ensures c.if-r-n.true)

pub returns-then-number-ne0 : goal.returns-then-number-ne0
returns-then-number-ne0 c =
    let mode : not (is_mode c.args.mode) ≡ false = ap not (sym c.is_mode.ensures ∙ c.if-not-is_mode.false) in
    let into = c.read-r.ensures in
    let fault = c.fault-number.ensures into.so_far.signs c.read-r.result.at into.so_far.held (letters_are into) in
    refuses c.refuse-then-number-ne0.ensures (faulty c.args.mode c.args.out.now mode c.if-n-gt-TEXT.false into c.if-r-n.false fault c.if-number-ne0.true)

pub standard-requires : goal.standard-requires
standard-requires c =
    let into = c.read-r.ensures in
    (c.new-keys.ensures, with_capitals into, few_letters into (omega arith) c.if-n-gt-TEXT.false)

pub returns : goal.returns
returns c =
    let mode : not (is_mode c.args.mode) ≡ false = ap not (sym c.is_mode.ensures ∙ c.if-not-is_mode.false) in
    let into = c.read-r.ensures in
    let fault = c.fault-number.ensures into.so_far.signs c.read-r.result.at into.so_far.held (letters_are into) in
    let keys = c.held.ensures ∙ c.standard.ensures in
    let w = spelt c.args.mode c.args.out.now mode c.if-n-gt-TEXT.false into c.if-r-n.false fault c.if-number-ne0.false keys in
    (c.write.ensures.0 ∙ ap (λ (x : Written). x.answer) w, c.write.ensures.1 ∙ ap (λ (x : Written). x.output) w)
