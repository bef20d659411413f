-- `syllable::nuclei::listed` meets its contract. Assumes nothing.
use mathlib.Core.Path.{sym, ap, ◌∙◌}
use mathlib.Core.Bool.{◌&&◌}
use Rattle.rules.proofs.Bools.{and_false}
use Rattle.syllable.proofs.PackedWords.{table_packs}
use Rattle.syllable.proofs.Searches.{listed_is, takes_none}
use Rattle.syllable.proofs.nuclei.listed.Goals as goal

pub returns : goal.returns
returns c w v f i n q =
    let s = c.stands.result in let t = c.takes.result in
    listed_is n w f (s && t) (λ z h j. c.stands.ensures w z i (table_packs h) j && c.takes.ensures w z f i (table_packs h) q j)
    (λ e. ap (◌&&◌ s) (c.takes.ensures w v f i n q ∙ takes_none n w f e) ∙ sym (and_false s))
