-- A stream of a program's lines in blocks: what is kept of the line that has begun, and what feeding bytes writes.
-- Of a line only the first 99 bytes matter: T or V, a space, and 97 bytes, which are more than a text may have, and more than a word takes.
use Rattle.std.specs.Prelude.{◌≡◌, Bool, true, false, List, [], ◌∷◌, ◌++◌, ℕ, ◌+◌, ◌*◌, ◌-◌, eqb, leb, ltb, length, take, drop, set, replicate, Option, Some, None, Ok}
use Rattle.rules.specs.WhatComesBack.{Written}
use Rattle.rules.specs.Drill.{newline}
use Rattle.rules.specs.TheWord.{at_front}
use Rattle.lines.specs.Appending.{most_in_line, most_a_byte}
use Rattle.lines.specs.Programs.{answer_of, line_answer}
use Rattle.lines.specs.declared.Program.{Program}
use Rattle.stream.specs.declared.Begun.{Begun}
use Rattle.stream.specs.declared.Fed.{Fed}

abbrev pub most_kept : ℕ
most_kept = 99

abbrev pub none_begun : Program → Begun
none_begun p = record { program = p; line = replicate most_kept 0; length = 0 }

-- the line that has begun, as far as it is kept
abbrev pub line_of : Begun → List ℕ
line_of s = take s.length s.line

-- the answer to it
abbrev pub answer_now : Begun → List ℕ
answer_now s = answer_of s.program (line_of s)

-- one byte more of it
abbrev pub kept_if : Bool → Begun → ℕ → Begun
kept_if true s b = record { program = s.program; line = set s.line s.length b; length = s.length + 1 }
kept_if false s b = s

unfoldable pub kept : Begun → ℕ → Begun
kept s b = kept_if (ltb s.length most_kept) s b

-- and the next one, of which nothing is kept yet
abbrev pub ended : Begun → Begun
ended s = record { program = s.program; line = s.line; length = 0 }

-- What one byte does, with so much room for the answer: a newline has the line answered, or is stuck; any other byte is kept.
pub record ByteFed : Type 0 where
  pub state : Begun
  pub text : List ℕ
  pub stuck : Bool

abbrev pub byte_if : (is_end fits : Bool) → Begun → ℕ → ByteFed
byte_if false fits s b = record { state = kept s b; text = []; stuck = false }
byte_if true true s b = record { state = ended s; text = answer_now s; stuck = false }
byte_if true false s b = record { state = s; text = []; stuck = true }

unfoldable pub byte_fed : Begun → ℕ → ℕ → ByteFed
byte_fed s b room = byte_if (eqb b newline) (leb (length (answer_now s)) room) s b

-- What bytes do, as far as there is room: the state after them, how many were taken, and the text written.
pub record Feeding : Type 0 where
  pub state : Begun
  pub taken : ℕ
  pub text : List ℕ

abbrev pub stopped : Begun → Feeding
stopped s = record { state = s; taken = 0; text = [] }

abbrev pub after : ℕ → List ℕ → Feeding → Feeding
after n text f = record { state = f.state; taken = n + f.taken; text = text ++ f.text }

abbrev pub feeding : Begun → List ℕ → ℕ → Feeding
feeding s [] room = stopped s
feeding s (b ∷ bs) room =
    elim (byte_fed s b room).stuck [
      | true ↦ stopped s
      | false ↦ after 1 (byte_fed s b room).text (feeding (byte_fed s b room).state bs (room - length (byte_fed s b room).text))
    ]

-- room for all answers to so many bytes, that to a line which had begun before them among these
abbrev pub room_for : ℕ → ℕ
room_for n = most_in_line + most_a_byte * n

-- text at a place of an output
abbrev pub put_at : ℕ → List ℕ → List ℕ → List ℕ
put_at at text out = take at out ++ at_front text (drop at out)

-- what the functions answer
abbrev pub place_if : Bool → ℕ → Option ℕ
place_if true n = None
place_if false n = Some n

abbrev pub place_after : ℕ → ByteFed → Option ℕ
place_after at f = place_if f.stuck (at + length f.text)

abbrev pub fed_of : ℕ → Feeding → Fed
fed_of from f = record { state = f.state; taken = from + f.taken; written = length f.text }

-- A last line without a newline counts if not empty.
abbrev pub finish_or : Program → List ℕ → List ℕ → Written
finish_or p [] out = record { answer = Ok 0; output = out }
finish_or p (b ∷ bs) out = line_answer p (b ∷ bs) out

abbrev pub finishing : Begun → List ℕ → Written
finishing s out = finish_or s.program (line_of s) out

-- A run from a state over the bytes still to come, and all that it writes. Blocks are cut anywhere, each is fed with any room, and what it does not take is fed again;
-- at the end it is finished into an output with room for the last answer.
pub data Run : Begun → List ℕ → List ℕ → Type 0 where
  finished : {s : Begun} (out : List ℕ) (n : ℕ) → (finishing s out).answer ≡ Ok n → Run s [] (take n (finishing s out).output)
  fed : {s : Begun} (block later : List ℕ) (room : ℕ) {text : List ℕ}
      → Run (feeding s block room).state (drop (feeding s block room).taken block ++ later) text
      → Run s (block ++ later) ((feeding s block room).text ++ text)
