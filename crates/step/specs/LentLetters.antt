-- What a rule of document 01 leaves in the array of letters and in the state beside it; only contracts of private functions cite what stands here.
use Rattle.std.specs.Prelude.{◌≡◌, Bool, true, false, List, [], ◌∷◌, ◌++◌, map, ℕ, ◌+◌, ◌≤◌, ◌<◌, eqb, length, take, set, Option, Some}
use Prim.Native.Char.{code}
use Rattle.rules.specs.Letters.{Letter, no_tone, small}
use Rattle.rules.specs.TheWord.{State, Done, acted, undone, state_of, touched_of, outcome_of, one_more, is_acted, is_undone, is_appended, no_key, shaped_on, most_keys, letter, number, at_front}
use Rattle.rules.specs.KeyRoles as Rules
use Rattle.rules.specs.KeyRoles.{letter_of_key, asks_second_horn, takes_second_horn, horn_on_u_if, touched_if, is_added, undo, nothing, off, change}
use Rattle.rules.specs.declared.Role.{Role}
use Rattle.rules.specs.declared.Role.TheVariants.{NoRole}
use Rattle.rules.specs.declared.Touched.{Touched}
use Rattle.rules.specs.declared.Touched.TheVariants.{NoLetter, OneLetter, TwoLetters}
use Rattle.rules.specs.declared.Outcome.{Outcome}
use Rattle.rules.specs.declared.Outcome.TheVariants.{Acted, Undone, Appended}
use Rattle.step.specs.declared.Edit.{Edit}
use Rattle.step.specs.declared.Edit.TheVariants.{Nothing, Off, Change}
use Rattle.step.specs.declared.Rest.{Rest}
use Rattle.step.specs.declared.Counts.{Counts}
use Rattle.step.specs.declared.Done as Answer

-- numbers that are letters' numbers
abbrev pub Canonical : List ℕ → Type 0
Canonical ns = map number (map letter ns) ≡ ns

-- an array whose first numbers are letters
pub record LettersInFront (l : List ℕ) (count : ℕ) : Type 0 where
  pub whole : length l ≡ most_keys
  pub fits : count ≤ most_keys
  pub canonical : Canonical (take count l)

-- a place among letters, and a shape that a number has room for; and a place that was found among them, if it was
pub record LetterThere (l : List ℕ) (i kind : ℕ) : Type 0 where
  pub given : Canonical l
  pub inside : i < length l
  pub shape : kind < 8

pub record PlaceThere (l : List ℕ) (place : Option ℕ) (kind : ℕ) : Type 0 where
  pub given : Canonical l
  pub inside : (i : ℕ) → place ≡ Some i → i < length l
  pub shape : kind < 8

-- an array with room for a letter more
pub record RoomForLetter (l : List ℕ) (count : ℕ) : Type 0 where
  pub given : LettersInFront l count
  pub room : count < most_keys

-- a letter and the next, stored
abbrev pub paired : List ℕ → ℕ → ℕ → ℕ → List ℕ
paired l i a b = set (set l i a) (i + 1) b

-- the letter d in a shape
abbrev pub dee : ℕ → Letter
dee kind = small (code "d") kind

-- an edit without its letters, and the letters' numbers then
abbrev pub kind_of : Rules.Edit → Edit
kind_of nothing = Nothing
kind_of (off g w) = Off g
kind_of (change a g w) = Change a g

abbrev pub edited_in : List ℕ → Rules.Edit → List ℕ
edited_in l nothing = l
edited_in l (off g w) = map number w
edited_in l (change a g w) = map number w

pub record Edits (e : Rules.Edit) (old : List ℕ) (r : Edit) (new : List ℕ) : Type 0 where
  pub told : r ≡ kind_of e
  pub left : new ≡ edited_in old e

-- the state that an array and what stands beside it hold; and a state, held so
abbrev pub state_in : List ℕ → Rest → State
state_in l r = record { letters = map letter (take r.count l); tone = r.tone; closed = r.closed }

abbrev pub rest_of : State → Rest
rest_of s = record { count = length s.letters; tone = s.tone; closed = s.closed }

abbrev pub letters_left : List ℕ → State → List ℕ
letters_left l s = at_front (map number s.letters) l

-- a letter behind the others, and all else as it was
abbrev pub appended_plainly : State → Letter → State
appended_plainly s k = record { letters = s.letters ++ (k ∷ []); tone = s.tone; closed = s.closed }

-- a key that never puts the second horn on: none of the seven letters
abbrev pub NoSecondHorn : ℕ → Type 0
NoSecondHorn key = asks_second_horn (letter_of_key key).base ≡ false

-- the letter on which an appended letter puts the second horn, where it does, and the array then
abbrev pub second_horn_on : List ℕ → Rest → Letter → Touched
second_horn_on l r k = touched_if (takes_second_horn (state_in l r) k) (state_in l r).letters

abbrev pub with_second_horn : List ℕ → Rest → Letter → List ℕ
with_second_horn l r k = at_front (map number (horn_on_u_if (takes_second_horn (state_in l r) k) (state_in l r).letters)) l

pub record LeavesState (s : State) (old : List ℕ) (r : Rest) (new : List ℕ) : Type 0 where
  pub beside : r ≡ rest_of s
  pub left : new ≡ letters_left old s

pub record DoesAsRuled (d : Done) (old : List ℕ) (r : Answer.Done) (new : List ℕ) : Type 0 where
  pub told : r ≡ record { outcome = outcome_of d; touched = touched_of d; rest = rest_of (state_of d) }
  pub left : new ≡ letters_left old (state_of d)

-- the letters that a key touched lie among so many
abbrev pub TouchesIn : ℕ → Touched → Type 0
TouchesIn n NoLetter = Unit {0}
TouchesIn n (OneLetter i) = i < n
TouchesIn n (TwoLetters i) = i + 1 < n

-- the places of keys in their arrays, once a key at a place did this; and that of the tone's key, by the tone before and after it
abbrev pub by_then : List ℕ → ℕ → ℕ → Outcome → List ℕ
by_then l count here (Acted a) = l
by_then l count here Undone = set l count here
by_then l count here Appended = set l count here

abbrev pub shaper_of : Outcome → ℕ → ℕ
shaper_of (Acted a) here = here
shaper_of Undone here = no_key
shaper_of Appended here = here

abbrev pub shaped_then : List ℕ → ℕ → ℕ → Touched → Outcome → List ℕ
shaped_then l count here g o = by_then (shaped_on (shaper_of o here) g l) count no_key o

abbrev pub toned_then : ℕ → ℕ → ℕ → ℕ → ℕ
toned_then before after here p = elim (eqb before after) [ true ↦ p | false ↦ elim (eqb after no_tone) [ true ↦ no_key | false ↦ here ] ]

-- what a key does once the letters are edited
abbrev pub after_edit : Edit → State → Letter → Done
after_edit Nothing s k = is_added s k
after_edit (Off g) s k = undone g (undo s k)
after_edit (Change a g) s k = acted a g s

abbrev pub rest_with_tone : Rest → ℕ → Rest
rest_with_tone r t = record { count = r.count; tone = t; closed = r.closed }

-- one count raised by what a key did
abbrev pub counted_in : Counts → Outcome → Counts
counted_in n o = record { acted = one_more (is_acted o) n.acted; undone = one_more (is_undone o) n.undone; appended = one_more (is_appended o) n.appended }

-- a closed word's keys have no role
abbrev pub unless_closed_role : Bool → Role → Role
unless_closed_role true r = NoRole
unless_closed_role false r = r
