-- 8 Where the tone is shown (docs/RULES.md): the place of the tone within the nucleus and in the word.
use Rattle.std.specs.Prelude.{Bool, true, false, not, ◌&&◌, ◌||◌, [], ◌∷◌, ℕ, suc, ◌+◌, eqb, length, Option, Some, None}
use Rattle.rules.specs.Letters.{Letters, plain, no_tone, is_nil}
use Rattle.rules.specs.TakingApart.{initial, nucleus, final, leftovers}

-- 8.1 The last shaped letter of a nucleus is the last one that is not plain, if there is one.
abbrev pub or_here : Option ℕ → Bool → Option ℕ
or_here (Some n) here = Some (suc n)
or_here None true = Some 0
or_here None false = None

abbrev pub last_shaped : Letters → Option ℕ
last_shaped [] = None
last_shaped (x ∷ xs) = or_here (last_shaped xs) (not (eqb x.shape plain))

-- 8.2 Of three plain letters the second has the tone. Of two it is the first where the word ends with them, with no
-- final and no leftovers, and else the second. Of four or more it is the first.
abbrev pub by_count : ℕ → Bool → ℕ
by_count n ends =
    elim (eqb n 3) [
      | true ↦ 1
      | false ↦ elim (eqb n 2) [
        | true ↦ elim ends [ true ↦ 0 | false ↦ 1 ]
        | false ↦ 0
      ]
    ]

-- 8.3 A nucleus of one letter has the tone on it. A longer one has it on its last shaped letter, or where all are
-- plain on the letter that 8.2 says.
abbrev pub or_by_count : Option ℕ → ℕ → ℕ
or_by_count (Some at) n = at
or_by_count None n = n

abbrev pub place_within : Letters → Bool → ℕ
place_within nuc ends = elim (eqb (length nuc) 1) [ true ↦ 0 | false ↦ or_by_count (last_shaped nuc) (by_count (length nuc) ends) ]

-- 8.4 The place of the tone is its letter's place in the word, from 0, the letters of the initial in front. A tone of
-- 0 has no place, nor has any tone where there is no nucleus.
abbrev pub place_unless : Bool → ℕ → Option ℕ
place_unless true at = None
place_unless false at = Some at

unfoldable pub tone_place : Letters → ℕ → Option ℕ
tone_place w tone =
    place_unless (eqb tone no_tone || is_nil (nucleus w)) (length (initial w) + place_within (nucleus w) (is_nil (final w) && is_nil (leftovers w)))
