-- 4 The word (docs/RULES.md): the limits, the word and its record, a new word, and what is kept of each key.
use Rattle.std.specs.Prelude.{Bool, true, false, List, [], ◌∷◌, ◌++◌, map, ℕ, suc, ◌+◌, ◌*◌, ◌/◌, ◌%◌, eqb, length, take, drop, set, replicate}
use Rattle.rules.specs.Letters.{Letter, Letters, no_tone}
use Rattle.rules.specs.declared.Word.{Word}
use Rattle.rules.specs.declared.Act.{Act}
use Rattle.rules.specs.declared.Act.TheVariants.{Tone, Shape, Stroke, Clear}
use Rattle.rules.specs.declared.Touched.{Touched}
use Rattle.rules.specs.declared.Touched.TheVariants.{NoLetter, OneLetter, TwoLetters}
use Rattle.rules.specs.declared.Outcome.{Outcome}
use Rattle.rules.specs.declared.Outcome.TheVariants.{Acted, Undone, Appended}

-- 4.1 A word has at most 32 keys, and a text at most 96 bytes.
abbrev pub most_keys : ℕ
most_keys = 32

abbrev pub most_bytes : ℕ
most_bytes = 96

-- 4.2 Three things of a word can be changed by a key: its letters, its tone, which is one for the whole word, and its
-- mark, open or closed.
pub record State : Type 0 where
  pub letters : Letters
  pub tone : ℕ
  pub closed : Bool

-- 4.3 Each letter has the place, among the keys typed and from 0, of the key that appended it, and that of the last key
-- that shaped it; the word has that of the last key that set its tone. The number 255 stands for no key.
abbrev pub no_key : ℕ
no_key = 255

pub record Places : Type 0 where
  pub appended_by : List ℕ
  pub shaped_by : List ℕ
  pub toned_by : ℕ

-- 4.4 A word is its letters, tone and mark with these places, its mode, the keys typed into it, and the counts of those
-- that acted, that undid and that were appended.
pub record Typed : Type 0 where
  pub mode : ℕ
  pub state : State
  pub places : Places
  pub keys : List ℕ
  pub acted : ℕ
  pub undone : ℕ
  pub appended : ℕ

-- 4.5 A new word has its mode, no letters, no keys, tone 0 that no key set, counts of 0, and is open. Each unused place
-- holds the filler, 0.
abbrev pub filler : ℕ
filler = 0

abbrev pub new_word : ℕ → Word
new_word m =
    record {
      mode = m;
      letters = replicate most_keys filler;
      appended_by = replicate most_keys filler;
      shaped_by = replicate most_keys filler;
      count = 0;
      tone = no_tone;
      toned_by = no_key;
      closed = false;
      keys = replicate most_keys filler;
      typed = 0;
      acted = 0;
      undone = 0;
      appended = 0;
    }

-- 4.6 In a record a letter is one number: its base, 256 times its shape, and 2048 more for a capital.
abbrev pub letter : ℕ → Letter
letter n = record { base = n % 256; shape = n / 256 % 8; capital = eqb (n / 2048 % 2) 1 }

abbrev pub capital_number : Bool → ℕ
capital_number true = 2048
capital_number false = 0

abbrev pub number : Letter → ℕ
number x = x.base + 256 * x.shape + capital_number x.capital

-- 4.7 A record holds the word in its places below the counts. Places past the counts are not read.
abbrev pub word_of : Word → Typed
word_of w =
    record {
      mode = w.mode;
      state = record { letters = map letter (take w.count w.letters); tone = w.tone; closed = w.closed };
      places = record { appended_by = take w.count w.appended_by; shaped_by = take w.count w.shaped_by; toned_by = w.toned_by };
      keys = take w.typed w.keys;
      acted = w.acted;
      undone = w.undone;
      appended = w.appended;
    }

-- 4.8 A list is written at the front of the places; those behind it stay as they were.
abbrev pub at_front : List ℕ → List ℕ → List ℕ
at_front new old = new ++ drop (length new) old

-- 4.9 A record into which another word is put keeps every place past that word's counts as it was.
abbrev pub holding : Word → Typed → Word
holding w z =
    record {
      mode = z.mode;
      letters = at_front (map number z.state.letters) w.letters;
      appended_by = at_front z.places.appended_by w.appended_by;
      shaped_by = at_front z.places.shaped_by w.shaped_by;
      count = length z.state.letters;
      tone = z.state.tone;
      toned_by = z.places.toned_by;
      closed = z.state.closed;
      keys = at_front z.keys w.keys;
      typed = length z.keys;
      acted = z.acted;
      undone = z.undone;
      appended = z.appended;
    }

-- 4.10 A key does one of three things: it acts, it undoes, or it is appended. The answer says which, on which letters it
-- put a shape or took it off, and gives the word after it.
pub data Done : Type 0 where
  acted : Act → Touched → State → Done
  undone : Touched → State → Done
  appended : Touched → State → Done

abbrev pub state_of : Done → State
state_of (acted a g s) = s
state_of (undone g s) = s
state_of (appended g s) = s

abbrev pub touched_of : Done → Touched
touched_of (acted a g s) = g
touched_of (undone g s) = g
touched_of (appended g s) = g

abbrev pub outcome_of : Done → Outcome
outcome_of (acted a g s) = Acted a
outcome_of (undone g s) = Undone
outcome_of (appended g s) = Appended

-- 4.11 A key that puts a shape on a letter has shaped it. An undo takes the place of the shape away, on both letters of a
-- pair. A key that undoes or is appended has appended its letter, which no key has shaped.
abbrev pub shaped_on : ℕ → Touched → List ℕ → List ℕ
shaped_on p NoLetter ps = ps
shaped_on p (OneLetter i) ps = set ps i p
shaped_on p (TwoLetters i) ps = set (set ps i p) (suc i) p

abbrev pub appended_after : ℕ → List ℕ → Done → List ℕ
appended_after here ps (acted a g s) = ps
appended_after here ps (undone g s) = ps ++ (here ∷ [])
appended_after here ps (appended g s) = ps ++ (here ∷ [])

abbrev pub shaped_after : ℕ → List ℕ → Done → List ℕ
shaped_after here ps (acted a g s) = shaped_on here g ps
shaped_after here ps (undone g s) = shaped_on no_key g ps ++ (no_key ∷ [])
shaped_after here ps (appended g s) = shaped_on here g ps ++ (no_key ∷ [])

-- 4.12 A key that sets the tone has its place there. A clear takes this place away, and so does an undo of the tone, which
-- is an undo that takes the shape off no letter.
abbrev pub toned_by_act : ℕ → ℕ → Act → ℕ
toned_by_act here p (Tone t) = here
toned_by_act here p (Shape sh) = p
toned_by_act here p Stroke = p
toned_by_act here p Clear = no_key

abbrev pub toned_by_undo : ℕ → Touched → ℕ
toned_by_undo p NoLetter = no_key
toned_by_undo p (OneLetter i) = p
toned_by_undo p (TwoLetters i) = p

abbrev pub toned_after : ℕ → ℕ → Done → ℕ
toned_after here p (acted a g s) = toned_by_act here p a
toned_after here p (undone g s) = toned_by_undo p g
toned_after here p (appended g s) = p

abbrev pub places_after : ℕ → Places → Done → Places
places_after here ps d =
    record { appended_by = appended_after here ps.appended_by d; shaped_by = shaped_after here ps.shaped_by d; toned_by = toned_after here ps.toned_by d }

-- 4.13 The key joins the keys typed, at the place that is their number, and one of the three counts goes up by 1: that of
-- what it did.
abbrev pub one_more : Bool → ℕ → ℕ
one_more true n = n + 1
one_more false n = n

abbrev pub is_acted : Outcome → Bool
is_acted (Acted a) = true
is_acted Undone = false
is_acted Appended = false

abbrev pub is_undone : Outcome → Bool
is_undone (Acted a) = false
is_undone Undone = true
is_undone Appended = false

abbrev pub is_appended : Outcome → Bool
is_appended (Acted a) = false
is_appended Undone = false
is_appended Appended = true

abbrev pub counted : Typed → ℕ → Done → Typed
counted z k d =
    record {
      mode = z.mode;
      state = state_of d;
      places = places_after (length z.keys) z.places d;
      keys = z.keys ++ (k ∷ []);
      acted = one_more (is_acted (outcome_of d)) z.acted;
      undone = one_more (is_undone (outcome_of d)) z.undone;
      appended = one_more (is_appended (outcome_of d)) z.appended;
    }
