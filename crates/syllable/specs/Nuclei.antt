-- The nuclei of document 01 one after the other: the row of each, and those that have the same base letters.
use Rattle.std.specs.Prelude.{true, false, List, [], ◌∷◌, ◌++◌, ℕ, eqb, get_or}
use Rattle.rules.specs.Letters.{Letters, one_of}
use Rattle.rules.specs.TakingApart.{Row, rows}
use Rattle.syllable.specs.Numbers.{num, plain_of}

abbrev pub nuclei_of : List Row → List Letters
nuclei_of [] = []
nuclei_of (r ∷ rs) = r.nuclei ++ nuclei_of rs

-- the row that has a nucleus; where none has, a row with no finals
abbrev pub no_row : Row
no_row = record { nuclei = []; ends = []; bare = false }

abbrev pub row_in : Letters → List Row → Row
row_in z [] = no_row
row_in z (r ∷ rs) = elim (one_of z r.nuclei) [ true ↦ r | false ↦ row_in z rs ]

unfoldable pub row_of : Letters → Row
row_of z = row_in z rows

-- the nuclei whose number without shapes is this
abbrev pub with_bases_in : ℕ → List Letters → List Letters
with_bases_in p [] = []
with_bases_in p (z ∷ zs) = elim (eqb p (plain_of (num z))) [ true ↦ z ∷ with_bases_in p zs | false ↦ with_bases_in p zs ]

unfoldable pub with_bases : ℕ → List Letters
with_bases p = with_bases_in p (nuclei_of rows)

-- three of them, as numbers
abbrev pub three_of : List Letters → List ℕ
three_of zs = num (get_or zs 0 []) ∷ num (get_or zs 1 []) ∷ num (get_or zs 2 []) ∷ []
