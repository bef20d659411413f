-- Commit: the two statements of specs/Committed.antt, by the laws on commit and the contracts.
use mathlib.Core.Path.{◌≡◌, refl, sym, ap, subst, ◌∙◌}
use mathlib.Core.Bool.{false}
use lib.ListN.{length, take}
use Rattle.rules.specs.TheWord.{Typed, word_of}
use Rattle.rules.specs.CodePoints.{shown}
use Rattle.rules.specs.Refusals.{out_of_range}
use Rattle.rules.specs.WhatComesBack.{typed, Written, commit_answer}
use Rattle.rules.specs.declared.TypeAll.{TypeAll}
use Rattle.rules.proofs.NotRefused.{shows, typed_in_range, typed_word}
use Rattle.rules.proofs.StaysInRange.{read_front}
use Rattle.rules.specs.HandedBack.{HandedBack}
use Rattle.rules.proofs.Commits.{shown_is_granted, keys_or_kept_text}
use Rattle.rules.specs.AnswersInNumbers.{write_says, commit_says}
use Rattle.promises.proofs.FromNumbers.{granted_as}
use Rattle.promises.specs.Committed.{ShownIsGranted, KeptOrKeys}
use Rattle.promises.proofs.AsDefined.{typed_as, shown_answer, shown_output, handed_back_law, asked}
use Rattle.promises.proofs.EachKey.{accepted}

pub granted : ShownIsGranted
granted m ks ok r t before after a room s =
    let e = typed_as t in
    let all = accepted m ks ok in
    let range : out_of_range r.word ≡ false = ap (λ (x : TypeAll). out_of_range x.word) e ∙ typed_in_range m ks all in
    let word_is : word_of r.word ≡ typed m ks = ap (λ (x : TypeAll). word_of x.word) e ∙ typed_word m ks all in
    let text = shown (word_of r.word).state in
    let f = shows r.word range before room in
    let front : take (length text) after ≡ text = ap (take (length text)) (shown_output s ∙ ap (λ (x : Written). x.output) f) ∙ read_front text before (length text) refl in (
      length text,
      ap write_says (shown_answer s ∙ ap (λ (x : Written). x.answer) f),
      λ c q. ap commit_says (asked q ∙ ap (commit_answer m ks) (front ∙ ap (λ (z : Typed). shown z.state) word_is) ∙ shown_is_granted m ks ok.mode ok.few ok.keys),
    )

pub kept_or_keys : KeptOrKeys
kept_or_keys m ks text part r q e c = subst (HandedBack m ks) (sym (handed_back_law c)) (keys_or_kept_text m ks text (sym (asked q) ∙ granted_as r e))
