-- 13 Speller lines (docs/RULES.md): the speller as a program of lines.
use Rattle.std.specs.Prelude.{List, [], ◌∷◌, ◌++◌, ℕ, Option, Some, None}
use Rattle.rules.specs.Speller.{read}
use Rattle.rules.specs.Refusals.{to_spell, Call, refusal}
use Rattle.rules.specs.WhatComesBack.{keys_of}
use Rattle.rules.specs.Drill.{newline, refused_line, line_by, lines_from, answers}
use Rattle.rules.specs.declared.Refusal.{Refusal}

-- 13.1 A line of the speller has room for any key list, so that refusal 4 does not occur.
abbrev pub text_call : ℕ → List ℕ → Call
text_call m text = record { record? = None; mode? = Some m; keys? = None; text? = Some (to_spell text); room? = None }

-- 13.2 The answer to a text is its key list and a newline. A refusal is written as the drill writes one.
abbrev pub spelled_or : Option Refusal → ℕ → List ℕ → List ℕ
spelled_or None m text = keys_of m (read text) ++ (newline ∷ [])
spelled_or (Some r) m text = refused_line r

abbrev pub spelled_line : ℕ → List ℕ → List ℕ
spelled_line m text = spelled_or (refusal (text_call m text)) m text

-- 13.3 A line starts as a line of the drill. All that follows, up to its end, is the text.
unfoldable pub spell_line : List ℕ → List ℕ
spell_line line = line_by spelled_line line

-- 13.4 There is no line of names; each line gets its answer, one after the other.
unfoldable pub spell_program : List ℕ → List ℕ
spell_program input = answers spell_line (lines_from [] input)
