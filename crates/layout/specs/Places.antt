-- The word's record as 169 bytes at fixed places, and read back.
use Rattle.std.specs.Prelude.{Bool, true, false, ◌&&◌, ◌||◌, List, [], ◌∷◌, ◌++◌, ℕ, ◌+◌, ◌*◌, ◌/◌, ◌%◌, eqb, length, get_or, take, drop, Option, Some, None, is_some}
use Rattle.rules.specs.Letters.{telex}
use Rattle.rules.specs.TheWord.{new_word}
use Rattle.rules.specs.declared.Word.{Word}

-- numbers as two bytes each, low byte first; and read back
abbrev pub pairs : List ℕ → List ℕ
pairs [] = []
pairs (n ∷ ns) = n % 256 ∷ n / 256 ∷ pairs ns

abbrev pub numbers : List ℕ → List ℕ
numbers [] = []
numbers (a ∷ []) = []
numbers (a ∷ b ∷ bs) = (a + 256 * b) ∷ numbers bs

-- open 0, closed 1
abbrev pub mark_byte : Bool → ℕ
mark_byte true = 1
mark_byte false = 0

-- 0 mode, 1 count of letters, 2 tone, 3 mark, 4 keys typed, 5 acted, 6 undone, 7 appended, 8 to 39 the keys, 40 to 103 the letters;
-- 104 to 135 the places of the keys that appended the letters, 136 to 167 of those that shaped them, 168 of the one that set the tone
abbrev pub bytes_with : List ℕ → Word → List ℕ
bytes_with letters w =
    w.mode ∷ w.count ∷ w.tone ∷ mark_byte w.closed ∷ w.typed ∷ w.acted ∷ w.undone ∷ w.appended ∷
    w.keys ++ letters ++ w.appended_by ++ w.shaped_by ++ w.toned_by ∷ []

abbrev pub as_bytes : Word → List ℕ
as_bytes w = bytes_with (pairs w.letters) w

abbrev pub byte : ℕ → List ℕ → ℕ
byte place bs = get_or bs place 0

-- so many bytes from a place on
abbrev pub part : ℕ → ℕ → List ℕ → List ℕ
part place many bs = take many (drop place bs)

abbrev pub word_from : List ℕ → Word
word_from bs =
    record {
      mode = byte 0 bs;
      letters = numbers (part 40 64 bs);
      appended_by = part 104 32 bs;
      shaped_by = part 136 32 bs;
      count = byte 1 bs;
      tone = byte 2 bs;
      toned_by = byte 168 bs;
      closed = eqb (byte 3 bs) 1;
      keys = part 8 32 bs;
      typed = byte 4 bs;
      acted = byte 5 bs;
      undone = byte 6 bs;
      appended = byte 7 bs;
    }

-- 169 bytes, with a mark of 0 or 1
abbrev pub is_long : List ℕ → Bool
is_long bs = eqb (length bs) 169

abbrev pub is_mark : ℕ → Bool
is_mark n = eqb n 0 || eqb n 1

abbrev pub record_if : Bool → List ℕ → Option Word
record_if true bs = Some (word_from bs)
record_if false bs = None

unfoldable pub as_record : List ℕ → Option Word
as_record bs = record_if (is_long bs && is_mark (byte 3 bs)) bs

-- are bytes a record, and the word that they hold then: a new Telex word where they are none
abbrev pub is_record : List ℕ → Bool
is_record bs = is_some (as_record bs)

abbrev pub or_new : Option Word → Word
or_new (Some w) = w
or_new None = new_word telex

abbrev pub held : List ℕ → Word
held bs = or_new (as_record bs)

-- a buffer of 169 bytes with a record written into it; another is left as it was
abbrev pub record_written_if : Bool → Word → List ℕ → List ℕ
record_written_if true w old = as_bytes w
record_written_if false w old = old

unfoldable pub record_written : Word → List ℕ → List ℕ
record_written w old = record_written_if (is_long old) w old

-- a buffer of 169 bytes with 32 letters in their place; another, or with another number of letters, is left as it was
abbrev pub letters_put_if : Bool → List ℕ → List ℕ → List ℕ
letters_put_if true letters old = take 40 old ++ (pairs letters ++ drop 104 old)
letters_put_if false letters old = old

unfoldable pub letters_put : List ℕ → List ℕ → List ℕ
letters_put letters old = letters_put_if (eqb (length letters) 32 && is_long old) letters old
