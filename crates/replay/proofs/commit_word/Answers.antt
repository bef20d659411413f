-- `replay::commit_word` meets its contract: the refusal of the keys, or the line of the word that they make.
use Rattle.std.specs.Prelude.{Ok, Err}
use Rattle.std.proofs.lemmas.Result.{err_from_is_err_and}
use mathlib.Core.Path.{sym, ap, ◌∙◌}
use Rattle.rules.specs.TheWord.{word_of, at_front}
use Rattle.rules.specs.Refusals.{out_of_range}
use Rattle.rules.specs.declared.TypeAll.{TypeAll}
use Rattle.rules.proofs.NotRefused.{typed_in_range}
use Rattle.replay.specs.Replays.{WordReplayed, committed_line, done_of}
use Rattle.replay.proofs.Lines.{refused_word, committed_word}
use Rattle.replay.proofs.commit_word.Goals as goal

pub returns-in_err-all : goal.returns-in_err-all
returns-in_err-all c =
    let args = c.args in
    let p = err_from_is_err_and c.from_residual.result c.from_residual.ensures.1 in
    let e = sym (refused_word args.mode args.keys.now args.line.now _ (sym (ap (λ (t : TypeAll). t.answer) c.type_all-all.ensures) ∙ c.in_err-all.was)) in
    (p.1 ∙ ap Err p.2 ∙ ap (λ (x : WordReplayed). x.answer) e, ap (λ (x : WordReplayed). x.line) e)

pub line_of-requires : goal.line_of-requires
line_of-requires c =
    let args = c.args in
    let e = c.type_all-all.ensures in
    ap (λ (t : TypeAll). out_of_range t.word) e ∙ typed_in_range args.mode args.keys.now (sym (ap (λ (t : TypeAll). t.answer) e) ∙ c.in_ok-all.was)

pub returns : goal.returns
returns c =
    let args = c.args in
    let e = c.type_all-all.ensures in
    let f = committed_word args.mode args.keys.now args.line.now (sym (ap (λ (t : TypeAll). t.answer) e) ∙ c.in_ok-all.was) in (
      ap Ok (c.line_of.ensures.0 ∙ ap (λ (t : TypeAll). done_of (word_of t.word)) e) ∙ ap (λ (x : WordReplayed). x.answer) f,
      c.line_of.ensures.1 ∙ ap (λ (t : TypeAll). at_front (committed_line (word_of t.word)) args.line.now) e ∙ ap (λ (x : WordReplayed). x.line) f,
    )
