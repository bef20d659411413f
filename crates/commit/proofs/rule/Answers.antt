-- `commit::rule` meets its contract: each answer is the row of its test, or the ruling on the word typed.
use mathlib.Core.Path.{◌≡◌, sym, ap, ◌∙◌}
use mathlib.Core.Bool.{not, false}
use Rattle.std.specs.Prelude.{Err}
use Rattle.std.proofs.lemmas.Result.{err_from_is_err_and}
use Rattle.rules.specs.TheWord.{word_of}
use Rattle.rules.specs.Refusals.{is_mode, out_of_range}
use Rattle.rules.specs.declared.TypeAll.{TypeAll}
use Rattle.rules.proofs.NotRefused.{typed_in_range}
use Rattle.commit.specs.Rulings.{judged}
use Rattle.commit.proofs.Answers.{no_mode, too_many, too_long, not_typed, ruled}
use Rattle.commit.proofs.rule.Goals as goal

pub returns-then-not-is_mode : goal.returns-then-not-is_mode
returns-then-not-is_mode c = c.refuse.ensures ∙ no_mode c.args.mode c.args.keys.now c.args.text.now (ap not (sym c.is_mode.ensures ∙ c.if-not-is_mode.true))

pub returns-then-keys-gt-KEYS : goal.returns-then-keys-gt-KEYS
returns-then-keys-gt-KEYS c =
    let mode : not (is_mode c.args.mode) ≡ false = ap not (sym c.is_mode.ensures ∙ c.if-not-is_mode.false) in
    c.refuse-then-keys-gt-KEYS.ensures ∙ too_many c.args.mode c.args.keys.now c.args.text.now mode c.if-keys-gt-KEYS.true

pub returns-then-text-gt-TEXT : goal.returns-then-text-gt-TEXT
returns-then-text-gt-TEXT c =
    let mode : not (is_mode c.args.mode) ≡ false = ap not (sym c.is_mode.ensures ∙ c.if-not-is_mode.false) in
    c.refuse-then-text-gt-TEXT.ensures ∙ too_long c.args.mode c.args.keys.now c.args.text.now mode c.if-keys-gt-KEYS.false c.if-text-gt-TEXT.true

pub returns-in_err-all : goal.returns-in_err-all
returns-in_err-all c =
    let mode : not (is_mode c.args.mode) ≡ false = ap not (sym c.is_mode.ensures ∙ c.if-not-is_mode.false) in
    let p = err_from_is_err_and c.from_residual.result c.from_residual.ensures.1 in
    p.1 ∙ ap Err p.2 ∙
    not_typed c.args.mode c.args.keys.now c.args.text.now mode c.if-keys-gt-KEYS.false c.if-text-gt-TEXT.false _ (sym (ap (λ (t : TypeAll). t.answer) c.type_all-all.ensures) ∙ c.in_err-all.was)

pub judge-requires : goal.judge-requires
judge-requires c =
    let e = c.type_all-all.ensures in
    ap (λ (t : TypeAll). out_of_range t.word) e ∙ typed_in_range c.args.mode c.args.keys.now (sym (ap (λ (t : TypeAll). t.answer) e) ∙ c.in_ok-all.was)

pub returns : goal.returns
returns c =
    let mode : not (is_mode c.args.mode) ≡ false = ap not (sym c.is_mode.ensures ∙ c.if-not-is_mode.false) in
    let e = c.type_all-all.ensures in
    c.judge.ensures ∙ ap (λ (t : TypeAll). judged (word_of t.word) c.args.text.now) e ∙
    ruled c.args.mode c.args.keys.now c.args.text.now mode c.if-keys-gt-KEYS.false c.if-text-gt-TEXT.false (sym (ap (λ (t : TypeAll). t.answer) e) ∙ c.in_ok-all.was)
