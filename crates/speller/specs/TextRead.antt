-- What the code holds of a text that is read: the reading beside the letters.
use Rattle.std.specs.Prelude.{◌≡◌, Bool, true, false, ◌&&◌, List, [], ◌∷◌, map, ℕ, suc, ◌≤◌, ◌<◌, T, eqb, ltb, length, take, Option, Some, None, Result, Err}
use Rattle.rules.specs.Letters.{Letters, no_tone}
use Rattle.rules.specs.TheWord.{letter}
use Rattle.rules.specs.CodePoints.{Sign}
use Rattle.rules.specs.Speller.{read, stuck_at, reading, letters_in, tones_in, tone_in, two_tones}
use Rattle.speller.specs.declared.ReadSoFar.{ReadSoFar}
use Rattle.rules.specs.declared.Refusal.{Refusal}

-- the place of the first letter that carries a tone
abbrev pub one_on : Option ℕ → Option ℕ
one_on (Some n) = Some (suc n)
one_on None = None

abbrev pub tone_place_in : List Sign → Option ℕ
tone_place_in [] = None
tone_place_in (s ∷ ss) = elim (eqb s.tone no_tone) [ true ↦ one_on (tone_place_in ss) | false ↦ Some 0 ]

-- the reading after these letters, so many bytes into the text
abbrev pub reading_of : ℕ → List Sign → ReadSoFar
reading_of at ss = record { at = at; count = length ss; tone = tone_in ss; place = tone_place_in ss; twice = two_tones (tones_in ss) }

-- letters that have a capital 32 below them
abbrev pub have_capitals : Letters → Bool
have_capitals [] = true
have_capitals (x ∷ xs) = ltb 31 x.base && have_capitals xs

-- a text read so far into an array of letters' numbers,
pub record SoFar (text ns : List ℕ) (r : ReadSoFar) : Type 0 where
  pub signs : List Sign
  pub held : r ≡ reading_of r.at signs
  pub letters : map letter (take r.count ns) ≡ letters_in signs
  pub capitals : T (have_capitals (letters_in signs))
  pub fewer : r.count ≤ r.at
  pub within : r.at ≤ length text

-- to its end, or to a byte where no letter starts
pub record ReadInto (text ns : List ℕ) (r : ReadSoFar) : Type 0 where
  pub so_far : SoFar text ns r
  pub stuck : r.at < length text → read text ≡ stuck_at r.at
  pub whole : length text ≤ r.at → read text ≡ reading so_far.signs

abbrev pub refused_write : ℕ → ℕ → Result ℕ Refusal
refused_write n v = Err (record { number = n; value = v })
