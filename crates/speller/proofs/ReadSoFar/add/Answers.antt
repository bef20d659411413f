-- `speller::ReadSoFar::add` meets its contract: the letter carries no tone, a second one, or the first.
use mathlib.Core.Path.{ap, ◌∙◌}
use Rattle.speller.proofs.Tones.{counted, untoned, toned_again, first_toned}
use Rattle.speller.proofs.ReadSoFar.add.Goals as goal
use Rattle.speller.proofs.ReadSoFar.add.Goals.{then-tone-ne-NO_TONE+then-self-eq-NO_TONE, then-tone-ne-NO_TONE+else-self-eq-NO_TONE, else-tone-ne-NO_TONE}

pub returns : goal.returns
returns c ss s held e =
    let r = c.args.self.now in
    let t = c.args.tone in
    let l = c.args.length in
    elim c.if-tone-ne-NO_TONE.branch [
      | then-tone-ne-NO_TONE+then-self-eq-NO_TONE w ↦ ap (counted l) w.self-is ∙ first_toned r ss s t l held e w.if-tone-ne-NO_TONE.true w.if-self-eq-NO_TONE.true
      | then-tone-ne-NO_TONE+else-self-eq-NO_TONE w ↦ ap (counted l) w.self-is ∙ toned_again r ss s t l held e w.if-tone-ne-NO_TONE.true w.if-self-eq-NO_TONE.false
      | else-tone-ne-NO_TONE w ↦ ap (counted l) w.self-is ∙ untoned r ss s t l held e w.if-tone-ne-NO_TONE.false
    ]
