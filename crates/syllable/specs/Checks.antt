-- What the code answers of the checks on a word, as equations to document 01's definitions.
use Rattle.std.specs.Prelude.{Bool, true, false, ◌++◌, ℕ}
use Rattle.rules.specs.Letters.{Letters}
use Rattle.rules.specs.TakingApart.{initial, nucleus, final, listed, some_agrees, first_that_holds, one_to_five, six_and_seven}

-- what check 6 asks for: the nucleus is listed or, where it is free, some listed nucleus agrees
abbrev pub sixth : Bool → Letters → Bool
sixth true w = some_agrees (initial w) (nucleus w) (final w)
sixth false w = listed (initial w) (nucleus w) (final w)

-- the first check that holds, or 0
unfoldable pub first_fault : Letters → (tone : ℕ) → (free : Bool) → ℕ
first_fault w tone free = first_that_holds (one_to_five w ++ six_and_seven (sixth free w) w tone)
