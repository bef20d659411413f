-- `lines::keys_line` meets its contract: the refusal's line, or the line of the word that the keys make.
use mathlib.Core.Path.{sym, ap, ◌∙◌}
use Rattle.rules.specs.TheWord.{word_of}
use Rattle.rules.specs.Refusals.{out_of_range}
use Rattle.rules.specs.declared.TypeAll.{TypeAll}
use Rattle.rules.proofs.NotRefused.{typed_in_range}
use Rattle.lines.specs.Programs.{word_line_of}
use Rattle.lines.proofs.Columns.{as_part}
use Rattle.lines.proofs.Words.{refused_keys, small_value, typed_keys}
use Rattle.lines.proofs.keys_line.Goals as goal

pub refused-requires : goal.refused-requires
refused-requires c = (c.requires, small_value c.args.mode c.args.keys.now _ (sym (ap (λ (t : TypeAll). t.answer) c.type_all-all.ensures) ∙ c.in-Err.is))

pub returns-in-Err : goal.returns-in-Err
returns-in-Err c = as_part (refused_keys c.args.mode c.args.keys.now (word_line_of c.args.keyed) _ (sym (ap (λ (t : TypeAll). t.answer) c.type_all-all.ensures) ∙ c.in-Err.is)) c.refused.ensures

pub word_line-requires : goal.word_line-requires
word_line-requires c =
    let e = c.type_all-all.ensures in
    let typed = sym (ap (λ (t : TypeAll). t.answer) e) ∙ c.in_default.is in
    (c.requires, ap (λ (t : TypeAll). out_of_range t.word) e ∙ typed_in_range c.args.mode c.args.keys.now typed)

pub returns : goal.returns
returns c =
    let e = c.type_all-all.ensures in
    let typed = sym (ap (λ (t : TypeAll). t.answer) e) ∙ c.in_default.is in
    as_part (ap (λ (t : TypeAll). word_line_of c.args.keyed (word_of t.word)) e ∙ typed_keys c.args.mode c.args.keys.now (word_line_of c.args.keyed) typed) c.word_line.ensures
