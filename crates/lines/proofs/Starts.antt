-- What each program answers behind the start of a line.
use mathlib.Core.Path.{◌≡◌, refl, sym, ◌∙◌}
use mathlib.Core.List.{List}
use Prim.Native.Nat.{ℕ}
use lib.ListN.{drop}
use Rattle.rules.specs.Drill.{word_line, word_line_with_keys, keys_line, mode_of, answer_line, answer_line_with_keys}
use Rattle.rules.specs.SpellProgram.{spelled_line, spell_line}
use Rattle.lines.specs.declared.Program.{Program}
use Rattle.lines.specs.declared.Program.TheVariants.{Drill, DrillWithKeys, Spell}
use Rattle.lines.specs.Programs.{answer_of}

-- what a program answers behind the start
abbrev pub rest_of : Program → ℕ → List ℕ → List ℕ
rest_of Drill m rest = keys_line word_line m rest
rest_of DrillWithKeys m rest = keys_line word_line_with_keys m rest
rest_of Spell m rest = spelled_line m rest

pub by_rest : (p : Program) (line : List ℕ) → rest_of p (mode_of line) (drop 2 line) ≡ answer_of p line
unfolding answer_line answer_line_with_keys spell_line
by_rest Drill line = refl
by_rest DrillWithKeys line = refl
by_rest Spell line = refl

-- the program, the mode and what stands behind the start, as they are known
pub by_start : {p q : Program} {m : ℕ} {rest : List ℕ} (line : List ℕ) → p ≡ q → m ≡ mode_of line → rest ≡ drop 2 line → rest_of q m rest ≡ answer_of p line
by_start {p} line e m r = (λ i. rest_of (sym e i) (m i) (r i)) ∙ by_rest p line
