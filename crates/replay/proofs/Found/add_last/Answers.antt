-- `replay::Found::add_last` meets its contract: a word is added where there are keys.
use mathlib.Core.Path.{refl, sym, ◌∙◌}
use lib.ListN.{length}
use borrow.Author.Tests.{eqb-true, eqb-false}
use Rattle.replay.proofs.Totals.{not_added, added, no_keys, some_keys_law}
use Rattle.replay.proofs.Found.add_last.Goals as goal

pub returns-then-is_empty : goal.returns-then-is_empty
returns-then-is_empty c =
    let a = c.args in
    not_added a.mode a.keys.now a.self.now a.out.now (no_keys a.keys.now (eqb-true (length a.keys.now) 0 (sym c.is_empty.ensures ∙ c.if-is_empty.true)))

pub returns : goal.returns
returns c =
    let a = c.args in
    added a.mode a.keys.now a.self.now a.out.now (some_keys_law a.keys.now (eqb-false (length a.keys.now) 0 (sym c.is_empty.ensures ∙ c.if-is_empty.false))) refl c.add_word.ensures.0 c.add_word.ensures.1
