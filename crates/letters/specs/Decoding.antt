-- How the code reads: the first one to three bytes as a code point, and the code point looked up. The crate's proofs show that this finds what `letter_at` says.
use Rattle.std.specs.Prelude.{Bool, true, false, ◌&&◌, List, [], ◌∷◌, ℕ, suc, ◌+◌, ◌-◌, ◌*◌, ◌<◌, ◌≤◌, eqb, leb, ltb, Option, Some, None}
use Prim.Native.Char.{code}
use Rattle.rules.specs.Letters.{no_tone, telex, named}
use Rattle.rules.specs.TheWord.{number}
use Rattle.rules.specs.KeyRoles.{is_key, letter_of_key}
use Rattle.rules.specs.CodePoints.{sign, capital_point}
use Rattle.rules.specs.Speller.{Front, no_letter, a_letter}
use Rattle.letters.specs.Rows.{point_table, cased, sign_of}
use Rattle.letters.specs.declared.LetterRead.{LetterRead}

-- a code point above ASCII: đ, or one of the table, small or as a capital
abbrev pub found_in : ℕ → ℕ → List ℕ → Front
found_in c k [] = no_letter
found_in c k (p ∷ ps) =
    elim (eqb p c) [
      | true ↦ a_letter (sign_of false k)
      | false ↦ elim (eqb (capital_point p) c) [ true ↦ a_letter (sign_of true k) | false ↦ found_in c (suc k) ps ]
    ]

unfoldable pub found : ℕ → Front
found c =
    elim (eqb c (code "đ")) [
      | true ↦ a_letter (sign (named (code "đ")) no_tone)
      | false ↦ elim (eqb c (code "Đ")) [ true ↦ a_letter (sign (cased true (named (code "đ"))) no_tone) | false ↦ found_in c 0 point_table ]
    ]

-- a byte that goes on a longer sequence
abbrev pub follows_on : ℕ → Bool
follows_on b = leb 0x80 b && ltb b 0xC0

-- one byte: an ASCII letter
abbrev pub one_byte : ℕ → Front
one_byte a = elim (is_key telex a) [ true ↦ a_letter (sign (letter_of_key a) no_tone) | false ↦ no_letter ]

-- bytes in range
pub record Follows (b : ℕ) : Type 0 where
  pub low : 0x80 ≤ b
  pub high : b < 0xC0

-- the leads of two bytes from here on: with a lower one the sequence would be overlong
abbrev pub least_lead : ℕ
least_lead = 0xC2

pub record InTwo (a b : ℕ) : Type 0 where
  pub lead : least_lead ≤ a
  pub tail : Follows b

abbrev pub point_of_two : ℕ → ℕ → ℕ
point_of_two a b = (a - 0xC0) * 64 + (b - 0x80)

abbrev pub two_bytes : ℕ → ℕ → Front
two_bytes a b = elim (leb least_lead a && follows_on b) [ true ↦ found (point_of_two a b) | false ↦ no_letter ]

pub record InThree (a b c : ℕ) : Type 0 where
  pub lead : a < 0xF0
  pub middle : Follows b
  pub tail : Follows c

abbrev pub point_of_three : ℕ → ℕ → ℕ → ℕ
point_of_three a b c = (a - 0xE0) * 4096 + (b - 0x80) * 64 + (c - 0x80)

-- the code points of three bytes from here on: with a lower one the sequence would be overlong
abbrev pub least_point : ℕ
least_point = 0x800

abbrev pub three_bytes : ℕ → ℕ → ℕ → Front
three_bytes a b c =
    elim (ltb a 0xF0 && (follows_on b && follows_on c)) [
      | true ↦ elim (leb least_point (point_of_three a b c)) [ true ↦ found (point_of_three a b c) | false ↦ no_letter ]
      | false ↦ no_letter
    ]

-- a sequence that the text's end cuts is none
abbrev pub third_of : ℕ → ℕ → List ℕ → Front
third_of a b [] = no_letter
third_of a b (c ∷ cs) = three_bytes a b c

abbrev pub second_of : ℕ → List ℕ → Front
second_of a [] = no_letter
second_of a (b ∷ bs) = elim (ltb a 0xE0) [ true ↦ two_bytes a b | false ↦ third_of a b bs ]

abbrev pub decoded : List ℕ → Front
decoded [] = no_letter
decoded (a ∷ bs) = elim (ltb a 0x80) [ true ↦ one_byte a | false ↦ second_of a bs ]

-- what is found, with the number of bytes that were looked at
abbrev pub read_as : ℕ → Front → Option LetterRead
read_as n no_letter = None
read_as n (a_letter s) = Some (record { number = number s.letter; tone = s.tone; length = n })
