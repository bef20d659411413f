-- The code points of document 01 as one table, row after row: twelve vowels, six tones each.
use Rattle.std.specs.Prelude.{Bool, true, false, List, [], ◌∷◌, ◌++◌, ℕ, zero, suc, ◌/◌, ◌%◌}
use Rattle.rules.specs.Letters.{Letter, is, small, plain}
use Rattle.rules.specs.CodePoints.{Vowel, vowels, Sign, sign}

abbrev pub table_of : List Vowel → List ℕ
table_of [] = []
table_of (v ∷ vs) = v.points ++ table_of vs

unfoldable pub point_table : List ℕ
point_table = table_of vowels

-- the row of a letter, in either case; the number of rows for a letter that is no vowel
abbrev pub vowel_row_in : List Vowel → Letter → ℕ
vowel_row_in [] x = 0
vowel_row_in (v ∷ vs) x = elim (is x v.letter) [ true ↦ 0 | false ↦ suc (vowel_row_in vs x) ]

unfoldable pub vowel_row : Letter → ℕ
vowel_row x = vowel_row_in vowels x

-- the code points of a row, and its letter in lower case
abbrev pub points_in : List Vowel → ℕ → List ℕ
points_in [] r = []
points_in (v ∷ vs) zero = v.points
points_in (v ∷ vs) (suc r) = points_in vs r

unfoldable pub points_of : ℕ → List ℕ
points_of r = points_in vowels r

abbrev pub letter_in : List Vowel → ℕ → Letter
letter_in [] r = small 0 plain
letter_in (v ∷ vs) zero = v.letter
letter_in (v ∷ vs) (suc r) = letter_in vs r

unfoldable pub letter_of : ℕ → Letter
letter_of r = letter_in vowels r

-- the letter as shown whose code point is the k-th of the table, in either case
abbrev pub cased : Bool → Letter → Letter
cased c x = record { base = x.base; shape = x.shape; capital = c }

abbrev pub sign_of : Bool → ℕ → Sign
sign_of c k = sign (cased c (letter_of (k / 6))) (k % 6)
