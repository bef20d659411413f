-- `word::type_all` meets its contract: each answer is the row of its test, or the keys typed.
use Rattle.std.specs.Prelude.{Ok}
use mathlib.Core.Path.{sym, ap, subst, ◌∙◌}
use mathlib.Core.Bool.{not}
use lib.Dec.{T}
use borrow.Author.Tests.{not-false}
use Rattle.rules.specs.declared.Word.{Word}
use Rattle.rules.specs.Refusals.{is_mode}
use Rattle.word.specs.Refusing.{refused_typing}
use Rattle.word.proofs.Lists.{wrong_at, none_wrong}
use Rattle.word.proofs.Answers.{no_mode, too_many, not_a_key, all_typed}
use Rattle.word.proofs.type_all.Goals as goal

pub returns-then-not-is_mode : goal.returns-then-not-is_mode
returns-then-not-is_mode c =
    let args = c.args in
    c.refused.ensures ∙ sym (no_mode args.mode args.keys.now (ap not (sym c.is_mode.ensures ∙ c.if-not-is_mode.true)))

pub returns-then-keys-gt-KEYS : goal.returns-then-keys-gt-KEYS
returns-then-keys-gt-KEYS c =
    let args = c.args in
    c.refused-then-keys-gt-KEYS.ensures ∙ sym (too_many args.mode args.keys.now (ap not (sym c.is_mode.ensures ∙ c.if-not-is_mode.false)) c.if-keys-gt-KEYS.true)

pub returns-in-Some : goal.returns-in-Some
returns-in-Some c =
    let args = c.args in
    let wrong = wrong_at args.mode args.keys.now c.in-Some.place (sym c.in-Some.ensures) in
    c.refused-in-Some.ensures ∙ ap (refused_typing 3) wrong.0 ∙
    sym (not_a_key args.mode args.keys.now (ap not (sym c.is_mode.ensures ∙ c.if-not-is_mode.false)) c.if-keys-gt-KEYS.false wrong.1)

pub typed_all-requires : goal.typed_all-requires
typed_all-requires c =
    let args = c.args in
    (subst T (sym (not-false (is_mode args.mode) (ap not (sym c.is_mode.ensures ∙ c.if-not-is_mode.false)))) tt, c.if-keys-gt-KEYS.false, none_wrong args.mode args.keys.now (sym c.in_default.ensures))

pub returns : goal.returns
returns c =
    let args = c.args in
    ap (λ (w : Word). record { answer = Ok tt; word = w }) c.typed_all.ensures ∙
    sym (all_typed args.mode args.keys.now (ap not (sym c.is_mode.ensures ∙ c.if-not-is_mode.false)) c.if-keys-gt-KEYS.false (none_wrong args.mode args.keys.now (sym c.in_default.ensures)))
