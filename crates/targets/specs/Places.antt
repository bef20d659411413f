-- The targets of document 01's shape keys ("Rules for one key") as places in a word's letters.
use Rattle.std.specs.Prelude.{Bool, true, false, [], ◌∷◌, ℕ, suc, Option, Some, None}
use Rattle.rules.specs.Letters.{Letters}
use Rattle.rules.specs.KeyRoles.{own, is_aeo, is_a, is_q, is_pair, is_single}
use Rattle.rules.specs.declared.ShapeKey.{ShapeKey}
use Rattle.rules.specs.declared.ShapeKey.TheVariants.{CircumflexOn, Circumflex, Breve, Horn, HornBreve}

-- the base that a circumflex or breve key wants
abbrev pub wanted : ShapeKey → ℕ → Bool
wanted (CircumflexOn b) x = own b x
wanted Circumflex x = is_aeo x
wanted Breve x = is_a x
wanted Horn x = false
wanted HornBreve x = false

-- a place, one letter further on
abbrev pub next : Option ℕ → Option ℕ
next (Some n) = Some (suc n)
next None = None

abbrev pub or_this : Option ℕ → Bool → Option ℕ
or_this (Some n) here = Some (suc n)
or_this None true = Some 0
or_this None false = None

abbrev pub here_or : Bool → Option ℕ → Option ℕ
here_or true p = Some 0
here_or false p = next p

-- the last letter with a wanted base
abbrev pub last_place : (ℕ → Bool) → Letters → Option ℕ
last_place want [] = None
last_place want (x ∷ xs) = or_this (last_place want xs) (want x.base)

-- the first u followed directly by o, the u not directly after q
abbrev pub pair_place : Bool → Letters → Option ℕ
pair_place after_q [] = None
pair_place after_q (x ∷ []) = None
pair_place after_q (x ∷ z ∷ zs) = here_or (is_pair after_q x.base z.base) (pair_place (is_q x) (z ∷ zs))

-- the first o or u not directly after q
abbrev pub single_place : Bool → Letters → Option ℕ
single_place after_q [] = None
single_place after_q (x ∷ xs) = here_or (is_single after_q x.base) (single_place (is_q x) xs)
