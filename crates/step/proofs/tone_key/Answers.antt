-- `step::tone_key` meets its contract: each arm is the case of its tests.
use mathlib.Core.Path.{sym, ap, subst, ◌∙◌}
use mathlib.Core.Bool.{true, false}
use Rattle.rules.specs.Letters.{no_tone}
use Rattle.rules.specs.TheWord.{undone as undone_with}
use Rattle.rules.specs.KeyRoles.{letter_of_key, undo, tone_does}
use Rattle.rules.specs.declared.Touched.TheVariants.{NoLetter}
use Rattle.rules.specs.declared.ToneKey.{ToneKey}
use Rattle.rules.specs.declared.Act.TheVariants.{Tone, Clear}
use Rattle.step.specs.declared.Rest.{Rest}
use Rattle.step.specs.LentLetters.{RoomForLetter, state_in}
use Rattle.step.proofs.States.{tones, as_acted, as_ruled}
use Rattle.step.proofs.SecondHorns.{plainly}
use Rattle.step.proofs.Rulings.{clear_none, clear_acts, tone_undone, tone_not_there}
use Rattle.step.proofs.tone_key.Goals as goal

pub returns-then-tone-eq-NO_TONE : goal.returns-then-tone-eq-NO_TONE
returns-then-tone-eq-NO_TONE c =
    let s = state_in c.args.letters.now c.args.rest in
    let k = letter_of_key c.args.key in
    as_ruled (ap (λ (r : ToneKey). tone_does r s k) c.in_default.is ∙ clear_none s k c.if-tone-eq-NO_TONE.true ∙ plainly s k c.requires.1) c.appended.ensures

pub returns-in_default : goal.returns-in_default
returns-in_default c =
    let s = state_in c.args.letters.now c.args.rest in
    let k = letter_of_key c.args.key in
    as_ruled (ap (λ (r : ToneKey). tone_does r s k) c.in_default.is ∙ clear_acts s k c.if-tone-eq-NO_TONE.false) (as_acted Clear NoLetter (tones c.args.letters.now c.args.rest c.requires.0.given no_tone c.with_tone.ensures))

pub undone-requires : goal.undone-requires
undone-requires c = subst (λ (r : Rest). RoomForLetter c.args.letters.now r.count) (sym c.with_tone-then-tone-wanted.ensures) c.requires.0

pub returns-then-tone-wanted : goal.returns-then-tone-wanted
returns-then-tone-wanted c =
    let l = c.args.letters.now in
    let s = state_in c.args.letters.now c.args.rest in
    let k = letter_of_key c.args.key in
    as_ruled (ap (λ (r : ToneKey). tone_does r s k) c.in-SetTone.is ∙ tone_undone s k c.in-SetTone.wanted c.if-tone-wanted.true ∙ sym (ap (λ (r : Rest). undone_with NoLetter (undo (state_in l r) k)) c.with_tone-then-tone-wanted.ensures)) c.undone.ensures

pub returns-then-takes_tone : goal.returns-then-takes_tone
returns-then-takes_tone c =
    let t = c.in-SetTone.wanted in
    let s = state_in c.args.letters.now c.args.rest in
    let k = letter_of_key c.args.key in
    as_ruled (ap (λ (r : ToneKey). tone_does r s k) c.in-SetTone.is ∙ tone_not_there s k t true c.if-tone-wanted.false (sym c.takes_tone.ensures ∙ c.if-takes_tone.true)) (as_acted (Tone t) NoLetter (tones c.args.letters.now c.args.rest c.requires.0.given t c.with_tone-then-takes_tone.ensures))

pub returns : goal.returns
returns c =
    let t = c.in-SetTone.wanted in
    let s = state_in c.args.letters.now c.args.rest in
    let k = letter_of_key c.args.key in
    as_ruled (ap (λ (r : ToneKey). tone_does r s k) c.in-SetTone.is ∙ tone_not_there s k t false c.if-tone-wanted.false (sym c.takes_tone.ensures ∙ c.if-takes_tone.false) ∙ plainly s k c.requires.1) c.appended-2.ensures
