-- What W-201 brought, the nucleus uơ: the table without it, the verdict by that table, and the words that are new.
use Rattle.std.specs.Prelude.{Bool, true, false, List, [], ◌∷◌, ◌++◌, map, ℕ, eqb}
use Rattle.rules.specs.Letters.{Letters, word, words, same, one_of}
use Rattle.rules.specs.TakingApart.{Row, rows, some_row, is_this, could_be, initial, nucleus, final, first_that_holds, one_to_five, six_and_seven}

abbrev pub without_uơ : List Letters → List Letters
without_uơ [] = []
without_uơ (z ∷ zs) = elim (same z (word "uơ")) [ true ↦ without_uơ zs | false ↦ z ∷ without_uơ zs ]

-- the rows of before: the 54 nuclei
abbrev pub rows_before : List Row
rows_before = map (λ r. record { nuclei = without_uơ r.nuclei; ends = r.ends; bare = r.bare }) rows

abbrev pub listed_before : Letters → Letters → Letters → Bool
listed_before ini nuc fin = some_row (is_this ini nuc fin) rows_before

unfoldable pub verdict_before : Letters → ℕ → ℕ
verdict_before w tone = first_that_holds (one_to_five w ++ six_and_seven (listed_before (initial w) (nucleus w) (final w)) w tone)

-- whether letters were admitted
abbrev pub some_agrees_before : Letters → Letters → Letters → Bool
some_agrees_before ini nuc fin = some_row (could_be ini nuc fin) rows_before

unfoldable pub admitted_before : Letters → Bool
admitted_before w = elim (eqb (first_that_holds (one_to_five w)) 0) [ true ↦ some_agrees_before (initial w) (nucleus w) (final w) | false ↦ false ]

-- the words that are new, in any case
abbrev pub is_new : Letters → Bool
is_new w = one_of w (words "huơ khuơ thuơ")
