-- 12 Drill lines (docs/RULES.md): one line and its answer, and a whole run.
use Rattle.std.specs.Prelude.{Bool, true, false, List, [], ◌∷◌, ◌++◌, ℕ, ◌+◌, ◌/◌, ◌%◌, eqb, ltb, drop, get_or, Option, Some, None}
use Prim.Native.Char.{code}
use Rattle.rules.specs.Letters.{telex, vni, characters}
use Rattle.rules.specs.TakingApart.{verdict}
use Rattle.rules.specs.TonePlace.{tone_place}
use Rattle.rules.specs.TheWord.{Typed, no_key}
use Rattle.rules.specs.Decision.{decision, handed_back}
use Rattle.rules.specs.CodePoints.{shown}
use Rattle.rules.specs.Refusals.{refusal}
use Rattle.rules.specs.WhatComesBack.{type_call, typed}
use Rattle.rules.specs.declared.Refusal.{Refusal}
use Rattle.rules.specs.declared.Decision.{Decision}
use Rattle.rules.specs.declared.Decision.TheVariants.{Keep, Restore}

-- 12.1 The answers of a run begin with a line of the columns' names: shown commit verdict tone place decision.
abbrev pub newline : ℕ
newline = 10

abbrev pub column_names : List ℕ
column_names = characters "shown commit verdict tone place decision"

abbrev pub header : List ℕ
header = column_names ++ (newline ∷ [])

-- 12.2 A number is written in decimal.
abbrev pub decimal : ℕ → List ℕ
decimal n = elim (ltb n 10) [ true ↦ (code "0" + n) ∷ [] | false ↦ (code "0" + n / 10) ∷ (code "0" + n % 10) ∷ [] ]

-- 12.3 A hyphen stands for a text that is empty and for a tone that stands nowhere. K stands for keep, R for restore.
abbrev pub or_hyphen : List ℕ → List ℕ
or_hyphen [] = code "-" ∷ []
or_hyphen (b ∷ bs) = b ∷ bs

abbrev pub place_column : Option ℕ → List ℕ
place_column (Some n) = decimal n
place_column None = code "-" ∷ []

abbrev pub decision_column : Decision → List ℕ
decision_column Keep = code "K" ∷ []
decision_column Restore = code "R" ∷ []

-- 12.4 Between two columns stands one space, and a newline ends the line.
abbrev pub joined : ℕ → List (List ℕ) → List ℕ
joined between [] = []
joined between (c ∷ []) = c
joined between (c ∷ d ∷ ds) = c ++ (between ∷ joined between (d ∷ ds))

abbrev pub columns : List (List ℕ) → List ℕ
columns cs = joined (code " ") cs ++ (newline ∷ [])

-- 12.5 The answer to a typed word has six columns: the shown text, what commit hands back, the verdict, the tone, its
-- place, the decision.
abbrev pub word_columns : Typed → List (List ℕ)
word_columns z =
    or_hyphen (shown z.state) ∷
    or_hyphen (handed_back (decision z) (shown z.state) z.keys) ∷
    decimal (verdict z.state.letters z.state.tone) ∷
    decimal z.state.tone ∷
    place_column (tone_place z.state.letters z.state.tone) ∷
    decision_column (decision z) ∷
    []

abbrev pub word_line : Typed → List ℕ
word_line z = columns (word_columns z)

-- 12.6 The answer to a refused line is an exclamation mark, the refusal's number and the number returned.
abbrev pub refused_line : Refusal → List ℕ
refused_line r = columns ((code "!" ∷ []) ∷ decimal r.number ∷ decimal r.value ∷ [])

-- 12.7 The keys of a line are typed as a list, and its answer is that of the word, or of the refusal.
abbrev pub line_or : (Typed → List ℕ) → Option Refusal → ℕ → List ℕ → List ℕ
line_or of_word None m ks = of_word (typed m ks)
line_or of_word (Some r) m ks = refused_line r

abbrev pub keys_line : (Typed → List ℕ) → ℕ → List ℕ → List ℕ
keys_line of_word m ks = line_or of_word (refusal (type_call m ks)) m ks

-- 12.8 A line is T for Telex or V for VNI, a space, and the keys, up to its end. A line that starts otherwise names
-- no mode: a number that no mode has stands for it, which is refusal 1.
abbrev pub no_mode : ℕ
no_mode = 2

abbrev pub mode_by : (is_t is_v is_space : Bool) → ℕ
mode_by is_t is_v false = no_mode
mode_by true is_v true = telex
mode_by false true true = vni
mode_by false false true = no_mode

abbrev pub mode_of : List ℕ → ℕ
mode_of line = mode_by (eqb (get_or line 0 0) (code "T")) (eqb (get_or line 0 0) (code "V")) (eqb (get_or line 1 0) (code " "))

abbrev pub line_by : (ℕ → List ℕ → List ℕ) → List ℕ → List ℕ
line_by answer line = answer (mode_of line) (drop 2 line)

unfoldable pub answer_line : List ℕ → List ℕ
answer_line line = line_by (keys_line word_line) line

-- 12.9 A newline ends a line of the input. What comes after the last newline is a line too, unless it is empty.
abbrev pub last_line : List ℕ → List (List ℕ)
last_line [] = []
last_line (b ∷ bs) = (b ∷ bs) ∷ []

-- the line that has begun, and the bytes behind it
abbrev pub lines_from : List ℕ → List ℕ → List (List ℕ)
lines_from line [] = last_line line
lines_from line (b ∷ bs) = elim (eqb b newline) [ true ↦ line ∷ lines_from [] bs | false ↦ lines_from (line ++ (b ∷ [])) bs ]

-- 12.10 The drill answers with the line of names, and then with the answer to each line, one after the other.
abbrev pub answers : (List ℕ → List ℕ) → List (List ℕ) → List ℕ
answers answer [] = []
answers answer (l ∷ ls) = answer l ++ answers answer ls

unfoldable pub drill : List ℕ → List ℕ
drill input = header ++ answers answer_line (lines_from [] input)

-- 12.11 The drill can answer with the places of the keys too. A place is written in decimal, and a hyphen stands for no
-- key.
abbrev pub place_or_hyphen : ℕ → List ℕ
place_or_hyphen p = elim (eqb p no_key) [ true ↦ code "-" ∷ [] | false ↦ decimal p ]

-- 12.12 Of each letter stand the place of the key that appended it, a slash, and that of the last key that shaped it.
-- Between two letters stands a comma.
abbrev pub letter_place : ℕ → ℕ → List ℕ
letter_place p q = joined (code "/") (place_or_hyphen p ∷ place_or_hyphen q ∷ [])

abbrev pub each_letter : List ℕ → List ℕ → List (List ℕ)
each_letter [] qs = []
each_letter (p ∷ ps) [] = []
each_letter (p ∷ ps) (q ∷ qs) = letter_place p q ∷ each_letter ps qs

abbrev pub letter_places : List ℕ → List ℕ → List ℕ
letter_places ps qs = joined (code ",") (each_letter ps qs)

-- 12.13 They are two columns more, behind the six: the letters' places, or a hyphen where the word has no letters, and
-- the place of the last key that set the tone.
abbrev pub key_columns : Typed → List (List ℕ)
key_columns z = or_hyphen (letter_places z.places.appended_by z.places.shaped_by) ∷ place_or_hyphen z.places.toned_by ∷ []

abbrev pub word_line_with_keys : Typed → List ℕ
word_line_with_keys z = columns (word_columns z ++ key_columns z)

-- 12.14 All else is as without them, and the line of names has two more: letters tonekey.
unfoldable pub answer_line_with_keys : List ℕ → List ℕ
answer_line_with_keys line = line_by (keys_line word_line_with_keys) line

abbrev pub key_header : List ℕ
key_header = column_names ++ (characters " letters tonekey" ++ (newline ∷ []))

unfoldable pub drill_with_keys : List ℕ → List ℕ
drill_with_keys input = key_header ++ answers answer_line_with_keys (lines_from [] input)
