-- `syllable::takes_tone` meets its contract.
use mathlib.Core.Path.{ap, ◌∙◌}
use lib.Dec.{eqb}
use Prim.Native.Nat.{ℕ}
use Rattle.syllable.proofs.Asks.{free_goes}
use Rattle.syllable.proofs.takes_tone.Goals as goal

pub ask-requires : goal.ask-requires
ask-requires c = tt

pub returns : goal.returns
returns c = ap (λ (n : ℕ). eqb n 0) c.ask.ensures ∙ free_goes _ _
