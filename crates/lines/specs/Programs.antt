-- What each program answers: to a line, and in front of all lines.
use Rattle.std.specs.Prelude.{Bool, true, false, List, [], ℕ}
use Prim.Native.Char.{code}
use Rattle.rules.specs.WhatComesBack.{Written}
use Rattle.rules.specs.TheWord.{Typed}
use Rattle.rules.specs.Drill.{newline, header, key_header, word_line, word_line_with_keys, answer_line, answer_line_with_keys}
use Rattle.rules.specs.SpellProgram.{spell_line}
use Rattle.output.specs.Front.{put}
use Rattle.lines.specs.declared.Program.{Program}
use Rattle.lines.specs.declared.Program.TheVariants.{Drill, DrillWithKeys, Spell}

-- the line of a word, with the places of the keys or without
abbrev pub word_line_of : Bool → Typed → List ℕ
word_line_of true = word_line_with_keys
word_line_of false = word_line

-- what ends the six columns: a space where the places follow, else a newline
abbrev pub six_end : Bool → ℕ
six_end true = code " "
six_end false = newline

abbrev pub answer_of : Program → List ℕ → List ℕ
answer_of Drill line = answer_line line
answer_of DrillWithKeys line = answer_line_with_keys line
answer_of Spell line = spell_line line

abbrev pub header_of : Program → List ℕ
header_of Drill = header
header_of DrillWithKeys = key_header
header_of Spell = []

-- the entry: a line and a lent output
abbrev pub line_answer : Program → List ℕ → List ℕ → Written
line_answer p line out = put (answer_of p line) out
