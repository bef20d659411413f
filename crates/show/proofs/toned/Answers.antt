-- `show::toned` meets its contract: the place of the tone as a number.
use Rattle.std.specs.Prelude.{Option, ℕ}
use mathlib.Core.Path.{sym, ap, ◌∙◌}
use lib.ListN.{length}
use Rattle.parts.proofs.Places.{no_tone_law}
use Rattle.show.specs.Filling.{toned_at}
use Rattle.show.proofs.toned.Goals as goal

pub returns-then-tone-eq-NO_TONE : goal.returns-then-tone-eq-NO_TONE
returns-then-tone-eq-NO_TONE c = let args = c.args in ap (λ (p : Option ℕ). toned_at p (length args.letters.now)) (no_tone_law _ args.tone c.if-tone-eq-NO_TONE.true)

pub returns-in_default : goal.returns-in_default
returns-in_default c =
    let args = c.args in
    ap (λ (p : Option ℕ). toned_at p (length args.letters.now)) (sym c.in_default.is ∙ c.tone_place-place.ensures)

pub returns : goal.returns
returns c =
    let args = c.args in
    ap (λ (p : Option ℕ). toned_at p (length args.letters.now)) (sym c.in-Some.is ∙ c.tone_place-place.ensures)
