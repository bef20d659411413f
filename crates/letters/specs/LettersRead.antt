-- What is read at a place of a text: the letter of the alphabet whose bytes stand there, or that none starts there.
use Rattle.std.specs.Prelude.{List, ℕ, length, drop, Option, Some, None}
use Rattle.rules.specs.TheWord.{number}
use Rattle.rules.specs.CodePoints.{point, utf8}
use Rattle.rules.specs.Speller.{Front, no_letter, a_letter, letter_at}
use Rattle.letters.specs.declared.LetterRead.{LetterRead}

abbrev pub read_of : Front → Option LetterRead
read_of no_letter = None
read_of (a_letter s) = Some (record { number = number s.letter; tone = s.tone; length = length (utf8 (point s)) })

unfoldable pub read_at : List ℕ → ℕ → Option LetterRead
read_at text at = read_of (letter_at (drop at text))
