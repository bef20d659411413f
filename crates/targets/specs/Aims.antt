-- What a shape key finds at a place of a word's letters: which letters it is, and the letters with the shape off, where the target is already so shaped; else with the new shape.
use Rattle.std.specs.Prelude.{◌&&◌, [], ◌∷◌, ℕ, zero, suc, eqb, Option, Some, None}
use Rattle.rules.specs.Letters.{Letters, plain, horn}
use Rattle.rules.specs.KeyRoles.{shaped, Found, nowhere, target}
use Rattle.rules.specs.declared.Touched.TheVariants.{OneLetter, TwoLetters}

-- the letters with another shape at a place, and the shape there
abbrev pub reshape : ℕ → ℕ → Letters → Letters
reshape i sh [] = []
reshape zero sh (x ∷ xs) = shaped sh x ∷ xs
reshape (suc i) sh (x ∷ xs) = x ∷ reshape i sh xs

abbrev pub shape_at : ℕ → Letters → ℕ
shape_at i [] = plain
shape_at zero (x ∷ xs) = x.shape
shape_at (suc i) (x ∷ xs) = shape_at i xs

-- one letter
abbrev pub one_at : ℕ → Option ℕ → Letters → Found
one_at sh None xs = nowhere
one_at sh (Some i) xs = target (eqb (shape_at i xs) sh) (OneLetter i) (reshape i plain xs) (reshape i sh xs)

-- a letter and the next
abbrev pub both_reshaped : ℕ → ℕ → Letters → Letters
both_reshaped i sh xs = reshape (suc i) sh (reshape i sh xs)

abbrev pub pair_at : Option ℕ → Letters → Found
pair_at None xs = nowhere
pair_at (Some i) xs = target (eqb (shape_at i xs) horn && eqb (shape_at (suc i) xs) horn) (TwoLetters i) (both_reshaped i plain xs) (both_reshaped i horn xs)
