-- 21 Numbers of a recording (docs/RULES.md): how a number is written, and which bytes are one.
use Rattle.std.specs.Prelude.{true, false, ◌||◌, List, [], ◌∷◌, ◌++◌, ℕ, zero, suc, ◌+◌, ◌*◌, ◌-◌, ◌/◌, ◌%◌, ◌<◌, eqb, leb, ltb, length, get_or, replicate, Option, Some, None}
use Rattle.groups.specs.declared.Number.{Number}
use Rattle.groups.specs.declared.Groups.{Groups}

-- 21.1 A number of a recording has at most five groups, and is below 2 to the 32.
abbrev pub most_groups : ℕ
most_groups = 5

abbrev pub limit : ℕ
limit = 4294967296

-- 21.2 A number below 128 is its own group. Any other has its lowest seven bits with the top bit set, and then the
-- groups of the rest.
abbrev pub groups_of : ℕ → ℕ → List ℕ
groups_of zero n = n ∷ []
groups_of (suc k) n = elim (ltb n 128) [ true ↦ n ∷ [] | false ↦ (128 + n % 128) ∷ groups_of k (n / 128) ]

unfoldable pub written : ℕ → List ℕ
written n = groups_of 4 n

-- 21.3 A group with the top bit set stands in front of the number that the groups behind it are. That number is not
-- 0, or the form would not be the shortest; and both together are below the limit.
abbrev pub in_front : ℕ → Option Number → Option Number
in_front low None = None
in_front low (Some n) =
    elim (eqb n.value 0 || leb limit (low + 128 * n.value)) [
      | true ↦ None
      | false ↦ Some (record { value = low + 128 * n.value; groups = suc n.groups })
    ]

-- 21.4 The number at the front of bytes is read group by group. There is none where the bytes are cut short, where
-- the groups are more than five, or by 21.3.
abbrev pub number_in : ℕ → List ℕ → Option Number
number_in zero bs = None
number_in (suc k) [] = None
number_in (suc k) (b ∷ bs) = elim (ltb b 128) [ true ↦ Some (record { value = b; groups = 1 }) | false ↦ in_front (b % 128) (number_in k bs) ]

unfoldable pub number : List ℕ → Option Number
number bs = number_in most_groups bs

-- 21.5 A function that reads answers with the number and how many groups it has, or with none; one that writes gives
-- the groups at the front of an array of five.
abbrev pub held : List ℕ → Groups
held gs = record { bytes = gs ++ replicate (most_groups - length gs) 0; count = length gs }

-- 21.6 Bytes are numbers below 256.
abbrev pub AllBytes : List ℕ → Type 0
AllBytes bs = (i : ℕ) → get_or bs i 0 < 256
