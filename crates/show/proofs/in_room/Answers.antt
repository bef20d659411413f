-- `show::in_room` meets its contract: nothing of too many letters or in a short output, else the text made there.
use mathlib.Core.Path.{ap, ◌∙◌}
use mathlib.Core.List.{List}
use Prim.Native.Nat.{ℕ}
use lib.ListN.{length}
use Rattle.rules.specs.TheWord.{at_front}
use Rattle.show.proofs.Tones.{toned_text}
use Rattle.show.proofs.Answers.{none_made, no_room, in_room}
use Rattle.show.proofs.in_room.Goals as goal

pub returns-then-letters-gt-KEYS : goal.returns-then-letters-gt-KEYS
returns-then-letters-gt-KEYS c =
    let args = c.args in
    let e = none_made args.letters.now args.tone args.out.now c.if-letters-gt-KEYS.true in
    (ap length e, ap (λ (l : List ℕ). at_front l args.out.now) e)

pub returns-then-out-lt-TEXT : goal.returns-then-out-lt-TEXT
returns-then-out-lt-TEXT c =
    let args = c.args in
    let e = no_room args.letters.now args.tone args.out.now c.if-letters-gt-KEYS.false c.if-out-lt-TEXT.true in
    (ap length e, ap (λ (l : List ℕ). at_front l args.out.now) e)

pub returns : goal.returns
returns c =
    let args = c.args in
    let e =
    toned_text args.letters.now args.tone c.toned-place.result c.toned-place.ensures ∙
    in_room args.letters.now args.tone args.out.now c.if-letters-gt-KEYS.false c.if-out-lt-TEXT.false in
    (c.fill.ensures.0 ∙ ap length e, c.fill.ensures.1 ∙ ap (λ (l : List ℕ). at_front l args.out.now) e)
