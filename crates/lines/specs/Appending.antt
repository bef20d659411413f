-- What is said of a function that writes a part of an answer line behind what is already written, and of the sizes that it can meet.
use Rattle.std.specs.Prelude.{◌≡◌, List, [], ◌∷◌, ◌++◌, ℕ, ◌+◌, ◌<◌, length, take, Option, Some, None}
use Prim.Native.Char.{code}
use Rattle.rules.specs.Drill.{joined}
use Rattle.lines.specs.declared.line.Line.{Line}

-- the bytes that a line holds
abbrev pub held : Line → List ℕ
held l = take l.at l.text

-- a line before and after these bytes are written behind what it holds
pub record Appends (before after : Line) (part : List ℕ) : Type 0 where
  pub moved : after.at ≡ before.at + length part
  pub front : held after ≡ held before ++ part

-- columns with a space between two, and a byte that ends them
abbrev pub ended_by : ℕ → List (List ℕ) → List ℕ
ended_by end cs = joined (code " ") cs ++ (end ∷ [])

-- the bytes of an answer line, at most; and those for each byte of the line that it answers and for the newline behind it: three of what is shown, three of what is handed back and six of the places
abbrev pub most_in_line : ℕ
most_in_line = 512

abbrev pub most_a_byte : ℕ
most_a_byte = 12

-- a place that fits a byte
abbrev pub SmallPlace : Option ℕ → Type 0
SmallPlace (Some n) = n < 256
SmallPlace None = Unit {0}
