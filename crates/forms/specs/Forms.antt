-- The forms of a syllable, by the tables of document 01: each initial, each nucleus that fits and may stand after it, each final that it then takes.
use Rattle.std.specs.Prelude.{Bool, true, false, not, ◌&&◌, List, [], ◌∷◌, ◌++◌, T}
use Rattle.rules.specs.Letters.{Letters, first_base}
use Rattle.rules.specs.TakingApart.{joins, Row, initials, finals, rows, fit, stands, takes}

-- what each of a list gives, one after the other
abbrev pub gather : (Letters → List Letters) → List Letters → List Letters
gather k [] = []
gather k (z ∷ zs) = k z ++ gather k zs

abbrev pub gather_rows : (Row → Letters → List Letters) → List Row → List Letters
gather_rows k [] = []
gather_rows k (r ∷ rs) = gather (k r) r.nuclei ++ gather_rows k rs

abbrev pub those_if : Bool → List Letters → List Letters
those_if true ws = ws
those_if false ws = []

abbrev pub with_final : Letters → Row → Letters → Letters → List Letters
with_final i r n f = those_if (takes i r n f) ((i ++ (n ++ f)) ∷ [])

-- g before i and another vowel letter is no form: it is read as gi, and stands there
abbrev pub may_follow : Letters → Letters → Bool
may_follow i n = fit i (first_base n) && (stands i n && not (joins i n))

abbrev pub with_nucleus : Letters → Row → Letters → List Letters
with_nucleus i r n = those_if (may_follow i n) (gather (with_final i r n) finals)

abbrev pub with_initial : Letters → List Letters
with_initial i = gather_rows (with_nucleus i) rows

unfoldable pub all_forms : List Letters
all_forms = gather with_initial initials

-- which letters are capitals, and letters in the cases that are given
abbrev pub capitals : Letters → List Bool
capitals [] = []
capitals (x ∷ xs) = x.capital ∷ capitals xs

abbrev pub first_case : List Bool → Bool
first_case [] = false
first_case (c ∷ cs) = c

abbrev pub other_cases : List Bool → List Bool
other_cases [] = []
other_cases (c ∷ cs) = cs

abbrev pub cased_as : List Bool → Letters → Letters
cased_as cs [] = []
cased_as cs (z ∷ zs) = record { base = z.base; shape = z.shape; capital = first_case cs } ∷ cased_as (other_cases cs) zs

-- A test passes at each of these forms, in these cases.
abbrev pub every : (Letters → Bool) → List Letters → Bool
every f [] = true
every f (z ∷ zs) = f z && every f zs

abbrev pub in_cases : (Letters → Bool) → List Bool → Letters → Bool
in_cases f cs z = f (cased_as cs z)

-- A test passes at every form, in every mix of capitals.
abbrev pub EveryForm : (Letters → Bool) → Type 0
EveryForm f = (cs : List Bool) → T (every (in_cases f cs) all_forms)
