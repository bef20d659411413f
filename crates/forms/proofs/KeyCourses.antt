-- A list of keys in which each is a letter to be appended or a mark to act, and the test that each does so, with the case of the letters unknown.
use mathlib.Core.Bool.{Bool, true, false, ◌&&◌}
use mathlib.Core.List.{List, [], ◌∷◌, ◌++◌, map}
use Prim.Native.Nat.{ℕ}
use lib.Dec.{eqb}
use Rattle.rules.specs.Letters.{Letter, Letters, plain, no_tone, telex, vni, same}
use Rattle.rules.specs.TheWord.{outcome_of, is_appended}
use Rattle.rules.specs.KeyRoles.{is_small, role_in, telex_roles, vni_roles, role, shaped, append, Edit, nothing, off, change, shape_edit, stroke_edit, role_does}
use Rattle.rules.specs.Speller.{key_of_letter, keys_after}
use Rattle.rules.specs.declared.Role.{Role}
use Rattle.rules.specs.declared.Role.TheVariants.{ToneRole, ShapeRole, StrokeRole, NoRole}
use Rattle.rules.specs.Syllables.{open_word}

pub data Item : Type 0 where
  letter : Letter → Item
  mark : ℕ → Item

abbrev pub item_keys : List Item → List ℕ
item_keys [] = []
item_keys (letter x ∷ xs) = key_of_letter x ∷ item_keys xs
item_keys (mark k ∷ xs) = k ∷ item_keys xs

-- the standard list but for the tone key: each letter, its stroke or shape key directly after it
abbrev pub course : ℕ → Letters → List Item
course mode [] = []
course mode (x ∷ xs) = letter x ∷ (map mark (keys_after mode x xs) ++ course mode xs)

-- the role of a key by its lower case
abbrev pub role_of : ℕ → ℕ → Role
role_of mode b = elim (eqb mode telex) [ true ↦ role_in telex_roles b | false ↦ elim (eqb mode vni) [ true ↦ role_in vni_roles b | false ↦ NoRole ] ]

-- the bare letters of a word: each plain, in its case
abbrev pub bare : Letters → Letters
bare w = map (shaped plain) w

-- what a stroke or shape key does to letters
abbrev pub edit_by : Role → Letters → Edit
edit_by (ToneRole t) w = nothing
edit_by (ShapeRole h) w = shape_edit h w
edit_by StrokeRole w = stroke_edit w
edit_by NoRole w = nothing

-- from these letters in an open word without a tone: each item does as is said, and the letters then pass a test
abbrev pub walk : ℕ → (Letters → Bool) → Letters → List Item → Bool
walk mode f w [] = f w
walk mode f w (letter x ∷ xs) =
    elim (is_small x.base && is_appended (outcome_of (role_does (role_of mode x.base) (open_word w no_tone) (shaped plain x)))) [
      | true ↦ walk mode f (append (open_word w no_tone) (shaped plain x)).letters xs
      | false ↦ false
    ]
walk mode f w (mark k ∷ xs) =
    elim (edit_by (role mode k) w) [
      | nothing ↦ false
      | off g v ↦ false
      | change a g v ↦ walk mode f v xs
    ]

-- typed from a new word, each item does as is said, and the letters are then these
abbrev pub types_to : ℕ → List Item → Letters → Bool
types_to mode xs v = walk mode (λ u. same u v) [] xs
