-- `syllable::admitted` meets its contract: an acute goes on every word that is admitted.
use mathlib.Core.Path.{sym, ap, ◌∙◌}
use lib.Dec.{eqb}
use Prim.Native.Nat.{ℕ}
use Rattle.rules.specs.Letters.{acute}
use Rattle.rules.specs.TakingApart.{fits}
use Rattle.rules.proofs.Bools.{and_true}
use Rattle.syllable.proofs.Asks.{free_goes}
use Rattle.syllable.proofs.admitted.Goals as goal

pub ask-requires : goal.ask-requires
ask-requires c = tt

pub returns : goal.returns
unfolding fits
returns c = ap (λ (n : ℕ). eqb n 0) c.ask.ensures ∙ free_goes _ acute ∙ sym (and_true _)
