-- Words of letters as numbers: each letter a digit, the first the lowest.
use Rattle.std.specs.Prelude.{◌≡◌, Bool, true, ◌&&◌, ◌||◌, List, [], ◌∷◌, map, ℕ, zero, suc, ◌+◌, ◌*◌, ◌%◌, ◌/◌, T, eqb, ltb}
use Rattle.rules.specs.Letters.{Letter, Letters}

-- twice a letter's number without its case, and 1: no letter is 0, and a plain one is below 512
abbrev pub digit : Letter → ℕ
digit x = 2 * (x.base + 256 * x.shape) + 1

abbrev pub digit_at : ℕ → Letters → ℕ
digit_at i [] = 0
digit_at zero (x ∷ xs) = digit x
digit_at (suc i) (x ∷ xs) = digit_at i xs

abbrev pub num : Letters → ℕ
num [] = 0
num (x ∷ xs) = digit x + 4096 * num xs

abbrev pub nums : List Letters → List ℕ
nums zs = map num zs

-- the first three letters, and a fourth digit where there are more
abbrev pub more : ℕ
more = 4096 * 4096 * 4096

abbrev pub packed : Letters → ℕ
packed [] = num []
packed (x ∷ []) = num (x ∷ [])
packed (x ∷ y ∷ []) = num (x ∷ y ∷ [])
packed (x ∷ y ∷ z ∷ []) = num (x ∷ y ∷ z ∷ [])
packed (x ∷ y ∷ z ∷ t ∷ ts) = num (x ∷ y ∷ z ∷ []) + more

-- letters whose base is a byte and whose shape is below 8, as all have that are read off numbers
abbrev pub bounded : Letters → Bool
bounded [] = true
bounded (x ∷ xs) = (ltb x.base 256 && ltb x.shape 8) && bounded xs

-- a number is the code of these letters
pub record Packs (p : ℕ) (w : Letters) : Type 0 where
  pub is : p ≡ packed w
  pub bounded : T (bounded w)

-- a number is that of a table's word, which has at most three letters
abbrev pub short : Letters → Bool
short z = bounded z && ltb (num z) more

pub record Numbers (p : ℕ) (z : Letters) : Type 0 where
  pub is : p ≡ num z
  pub short : T (short z)

-- a word's number without the shapes
abbrev pub plain_of : ℕ → ℕ
plain_of p = p % 512 + 4096 * (p / 4096 % 512 + 4096 * (p / 4096 / 4096 % 512))

-- a letter has its own shape, or is plain
abbrev pub agree_digit : ℕ → ℕ → Bool
agree_digit x z = eqb x z || eqb x (z % 512)
