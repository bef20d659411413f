-- The letters of the alphabet: a test for being one of them, and a test over all of them.
use Rattle.std.specs.Prelude.{Bool, true, false, ◌&&◌, List, [], ◌∷◌, ℕ, suc, eqb}
use Rattle.std.specs.Bool.{beq}
use Rattle.rules.specs.Letters.{is}
use Rattle.rules.specs.CodePoints.{Sign, alphabet}

abbrev pub some_sign : (Sign → Bool) → List Sign → Bool
some_sign f [] = false
some_sign f (s ∷ ss) = elim (f s) [ true ↦ true | false ↦ some_sign f ss ]

abbrev pub every_sign : (Sign → Bool) → List Sign → Bool
every_sign f [] = true
every_sign f (s ∷ ss) = f s && every_sign f ss

-- the same letter in the same shape and case, with the same tone
abbrev pub same_sign : Sign → Sign → Bool
same_sign s z = is s.letter z.letter && (beq s.letter.capital z.letter.capital && eqb s.tone z.tone)

unfoldable pub in_alphabet : Sign → Bool
in_alphabet s = some_sign (same_sign s) alphabet

-- how many of these letters a test picks
abbrev pub count_signs : (Sign → Bool) → List Sign → ℕ
count_signs f [] = 0
count_signs f (s ∷ ss) = elim (f s) [ true ↦ suc (count_signs f ss) | false ↦ count_signs f ss ]
