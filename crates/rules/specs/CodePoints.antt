-- 10 Code points and the shown text (docs/RULES.md): the letters of the alphabet, their UTF-8 bytes, and the text that a word shows.
use Rattle.std.specs.Prelude.{Bool, true, false, List, [], ◌∷◌, ◌++◌, ℕ, zero, suc, ◌+◌, ◌-◌, ◌/◌, ◌%◌, ltb, get_or, Option, Some, None}
use Prim.Native.Char.{code}
use Rattle.rules.specs.Letters.{Letter, Letters, no_tone, named, characters, is}
use Rattle.rules.specs.TonePlace.{tone_place}
use Rattle.rules.specs.TheWord.{State}

-- 10.1 Twelve vowels, each a base in a shape, have a code point for each of the six tones.
pub record Vowel : Type 0 where
  pub letter : Letter
  pub points : List ℕ

abbrev vowel_of : ℕ → List ℕ → Vowel
vowel_of c points = record { letter = named c; points = points }

abbrev pub vowels : List Vowel
vowels =
    vowel_of (code "a") (0x61 ∷ 0xE1 ∷ 0xE0 ∷ 0x1EA3 ∷ 0xE3 ∷ 0x1EA1 ∷ []) ∷
    vowel_of (code "ă") (0x103 ∷ 0x1EAF ∷ 0x1EB1 ∷ 0x1EB3 ∷ 0x1EB5 ∷ 0x1EB7 ∷ []) ∷
    vowel_of (code "â") (0xE2 ∷ 0x1EA5 ∷ 0x1EA7 ∷ 0x1EA9 ∷ 0x1EAB ∷ 0x1EAD ∷ []) ∷
    vowel_of (code "e") (0x65 ∷ 0xE9 ∷ 0xE8 ∷ 0x1EBB ∷ 0x1EBD ∷ 0x1EB9 ∷ []) ∷
    vowel_of (code "ê") (0xEA ∷ 0x1EBF ∷ 0x1EC1 ∷ 0x1EC3 ∷ 0x1EC5 ∷ 0x1EC7 ∷ []) ∷
    vowel_of (code "i") (0x69 ∷ 0xED ∷ 0xEC ∷ 0x1EC9 ∷ 0x129 ∷ 0x1ECB ∷ []) ∷
    vowel_of (code "o") (0x6F ∷ 0xF3 ∷ 0xF2 ∷ 0x1ECF ∷ 0xF5 ∷ 0x1ECD ∷ []) ∷
    vowel_of (code "ô") (0xF4 ∷ 0x1ED1 ∷ 0x1ED3 ∷ 0x1ED5 ∷ 0x1ED7 ∷ 0x1ED9 ∷ []) ∷
    vowel_of (code "ơ") (0x1A1 ∷ 0x1EDB ∷ 0x1EDD ∷ 0x1EDF ∷ 0x1EE1 ∷ 0x1EE3 ∷ []) ∷
    vowel_of (code "u") (0x75 ∷ 0xFA ∷ 0xF9 ∷ 0x1EE7 ∷ 0x169 ∷ 0x1EE5 ∷ []) ∷
    vowel_of (code "ư") (0x1B0 ∷ 0x1EE9 ∷ 0x1EEB ∷ 0x1EED ∷ 0x1EEF ∷ 0x1EF1 ∷ []) ∷
    vowel_of (code "y") (0x79 ∷ 0xFD ∷ 0x1EF3 ∷ 0x1EF7 ∷ 0x1EF9 ∷ 0x1EF5 ∷ []) ∷ []

-- 10.2 A letter as shown is a letter and the tone on it.
pub record Sign : Type 0 where
  pub letter : Letter
  pub tone : ℕ

abbrev pub sign : Letter → ℕ → Sign
sign x t = record { letter = x; tone = t }

-- 10.3 The code point of đ is 111 hexadecimal. Every other letter that has no row in the table, and every digit, is
-- its own byte.
abbrev pub small_point : List Vowel → Letter → ℕ → ℕ
small_point [] x t = elim (is x (named (code "đ"))) [ true ↦ 0x111 | false ↦ x.base ]
small_point (v ∷ vs) x t = elim (is x v.letter) [ true ↦ get_or v.points t 0 | false ↦ small_point vs x t ]

-- 10.4 A capital's code point is that of the small letter less 32 where that is below 100 hexadecimal, and less 1
-- from there on.
abbrev pub capital_point : ℕ → ℕ
capital_point c = elim (ltb c 0x100) [ true ↦ c - 32 | false ↦ c - 1 ]

abbrev pub in_case : Bool → ℕ → ℕ
in_case true c = capital_point c
in_case false c = c

abbrev pub point : Sign → ℕ
point s = in_case s.letter.capital (small_point vowels s.letter s.tone)

-- 10.5 A code point below 10000 hexadecimal is written in UTF-8 as one, two or three bytes.
abbrev pub utf8 : ℕ → List ℕ
utf8 c =
    elim (ltb c 0x80) [
      | true ↦ c ∷ []
      | false ↦ elim (ltb c 0x800) [
        | true ↦ (0xC0 + c / 64) ∷ (0x80 + c % 64) ∷ []
        | false ↦ (0xE0 + c / 4096) ∷ (0x80 + c / 64 % 64) ∷ (0x80 + c % 64) ∷ []
      ]
    ]

-- 10.6 The bytes of a text are those of its characters, one after the other; so are those of letters as shown.
abbrev pub utf8_of : List ℕ → List ℕ
utf8_of [] = []
utf8_of (c ∷ cs) = utf8 c ++ utf8_of cs

abbrev pub bytes : List Sign → List ℕ
bytes [] = []
bytes (s ∷ ss) = utf8 (point s) ++ bytes ss

-- 10.7 A word shows its letters in their order and case, the one at the tone's place with the tone and all others
-- without.
abbrev pub without_tone : Letters → List Sign
without_tone [] = []
without_tone (x ∷ xs) = sign x no_tone ∷ without_tone xs

abbrev pub tone_at : ℕ → ℕ → Letters → List Sign
tone_at at t [] = []
tone_at zero t (x ∷ xs) = sign x t ∷ without_tone xs
tone_at (suc n) t (x ∷ xs) = sign x no_tone ∷ tone_at n t xs

abbrev pub signs_at : Option ℕ → ℕ → Letters → List Sign
signs_at (Some n) t w = tone_at n t w
signs_at None t w = without_tone w

abbrev pub signs : Letters → ℕ → List Sign
signs w t = signs_at (tone_place w t) t w

abbrev pub shown : State → List ℕ
shown s = bytes (signs s.letters s.tone)

-- 10.8 The alphabet is the twelve vowels with each tone, đ, and the twenty plain consonants of ASCII, all of them
-- small and capital.
abbrev both_cases : Letter → ℕ → List Sign → List Sign
both_cases x t ss = sign x t ∷ sign (record { base = x.base; shape = x.shape; capital = true }) t ∷ ss

abbrev six_tones : Letter → List Sign → List Sign
six_tones x ss = both_cases x 0 (both_cases x 1 (both_cases x 2 (both_cases x 3 (both_cases x 4 (both_cases x 5 ss)))))

abbrev vowel_signs : List Vowel → List Sign → List Sign
vowel_signs [] ss = ss
vowel_signs (v ∷ vs) ss = six_tones v.letter (vowel_signs vs ss)

abbrev plain_signs : List ℕ → List Sign → List Sign
plain_signs [] ss = ss
plain_signs (c ∷ cs) ss = both_cases (named c) no_tone (plain_signs cs ss)

abbrev pub alphabet : List Sign
alphabet = vowel_signs vowels (plain_signs (characters "đbcdfghjklmnpqrstvwxz") [])
