-- What is written of one letter: its code point and its UTF-8 bytes, where it is a letter.
use Rattle.std.specs.Prelude.{Bool, true, false, ◌&&◌, ◌||◌, List, [], map, ℕ, eqb, leb}
use Rattle.rules.specs.Letters.{vni, no_tone, dot, elem, word}
use Rattle.rules.specs.TakingApart.{vowel}
use Rattle.rules.specs.TheWord.{letter, number}
use Rattle.rules.specs.CodePoints.{sign, point, utf8}
use Rattle.rules.specs.Refusals.{letter_allowed, shape_carried, no_capital_digit}

-- a number that is a letter which a word of the mode can hold
abbrev pub is_letter : ℕ → ℕ → Bool
is_letter mode n = letter_allowed mode n && (shape_carried (letter n) && no_capital_digit (letter n))

-- a tone that exists, and other than 0 only on a vowel
abbrev pub tone_stands : ℕ → ℕ → Bool
tone_stands n t = leb t dot && (eqb t no_tone || vowel (letter n).base)

-- the numbers of the small letters that carry a shape
abbrev pub is_shaped : ℕ → Bool
is_shaped n = elem n (map number (word "ăâêôơưđ"))

-- VNI digits are letters of a word, shown as themselves.
unfoldable pub letter_bytes : ℕ → ℕ → List ℕ
letter_bytes n t = elim (is_letter vni n && tone_stands n t) [ true ↦ utf8 (point (sign (letter n) t)) | false ↦ [] ]

-- the code point, 0 where there is none
unfoldable pub point_or : ℕ → ℕ → ℕ
point_or n t = elim (is_letter vni n && tone_stands n t) [ true ↦ point (sign (letter n) t) | false ↦ 0 ]

-- its bytes: none for 0
abbrev pub bytes_if : ℕ → List ℕ
bytes_if c = elim (eqb c 0) [ true ↦ [] | false ↦ utf8 c ]
