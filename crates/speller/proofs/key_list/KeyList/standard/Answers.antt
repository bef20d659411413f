-- `speller::KeyList::standard` meets its contract. The loop's invariant: the keys put so far and those of the letters from here on are all the letters' keys.
use mathlib.Core.Path.{ap, ◌∙◌}
use mathlib.Core.List.{List, [], ◌∷◌, ◌++◌, map}
use Prim.Native.Nat.{ℕ}
use native.Mathlib.Omega.{arith}
use lib.ListN.{length-drop}
use lib.Seq.{take_all}
use Rattle.rules.specs.TheWord.{letter}
use Rattle.rules.specs.Speller.{letter_keys}
use Rattle.speller.proofs.KeyLists.{has_capital, none_put, one_put, all_put, no_tone_key, tone_key_last}
use Rattle.speller.proofs.key_list.KeyList.standard.Goals as goal

pub loop-i-init : goal.loop-i-init
loop-i-init c = none_put c.requires.0

pub letter-requires : goal.letter-requires
letter-requires c = (has_capital c.args.letters.now c.loop-i.i c.loop-i-test.true c.requires.1, omega (arith, c.loop-i.invariant.few, c.loop-i-test.true, c.requires.2))

pub loop-i-preserved : goal.loop-i-preserved
loop-i-preserved c = one_put c.loop-i-test.true (take_all _ _ (simp length-drop (omega arith))) c.loop-i.invariant c.letter.ensures

pub returns-then-tone-ne-NO_TONE : goal.returns-then-tone-ne-NO_TONE
returns-then-tone-ne-NO_TONE c =
    let args = c.args in
    c.push.ensures.front ∙ ap (λ (l : List ℕ). l ++ (c.tone_key.result ∷ [])) (all_put c.loop-i-test.false c.loop-i.invariant) ∙ ap (λ (k : ℕ). letter_keys args.mode (map letter args.letters.now) ++ (k ∷ [])) c.tone_key.ensures ∙
    tone_key_last args.mode args.tone (map letter args.letters.now) c.if-tone-ne-NO_TONE.true

pub returns-else-tone-ne-NO_TONE : goal.returns-else-tone-ne-NO_TONE
returns-else-tone-ne-NO_TONE c =
    let args = c.args in
    all_put c.loop-i-test.false c.loop-i.invariant ∙ no_tone_key args.mode args.tone (map letter args.letters.now) c.if-tone-ne-NO_TONE.false
