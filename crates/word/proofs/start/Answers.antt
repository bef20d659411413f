-- `word::start` meets its contract: each mode has its new word, and any other is refused.
use Rattle.std.specs.Prelude.{Result, Ok, Err}
use mathlib.Core.Path.{◌≡◌, ap, sym, ◌∙◌}
use borrow.Author.Tests.{ne_eqb}
use Rattle.rules.specs.Letters.{telex, vni}
use Rattle.rules.specs.TheWord.{new_word}
use Rattle.rules.specs.Refusals.{refusal}
use Rattle.rules.specs.WhatComesBack.{start}
use Rattle.rules.specs.declared.Word.{Word}
use Rattle.rules.specs.declared.Refusal.{Refusal}
use Rattle.rules.specs.declared.Start.{Start}
use Rattle.word.proofs.start.Goals as goal
use Rattle.word.proofs.start.Goals.{in-0, in-1, in_default}

pub returns : goal.returns
unfolding refusal
returns c =
    let m = c.args.mode in
    let made : Result (Unit {0}) Refusal × Word → Start = λ x. record { answer = x.0; word = x.1 } in
    elim c.match-mode.branch [
      | in-0 k ↦ ap made (k.answer-is ∙ ap (λ (w : Word). (Ok tt, w)) k.telex.ensures) ∙ ap start (sym k.in-0.is)
      | in-1 k ↦ ap made (k.answer-is ∙ ap (λ (w : Word). (Ok tt, w)) k.vni.ensures) ∙ ap start (sym k.in-1.is)
      | in_default k ↦
          let none = k.in_default.in_default-own.rest in
          let e : record { answer = Err (record { number = 1; value = 0 }); word = new_word telex } ≡ start m = simp (ne_eqb m telex none.0.1, ne_eqb m vni none.1) in
          ap made (k.answer-is ∙ ap (λ (w : Word). (Err (record { number = 1; value = 0 }), w)) k.telex-in_default.ensures) ∙ e
    ]
