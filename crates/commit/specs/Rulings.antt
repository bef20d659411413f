-- What commit and its question both look at: the refusal, or else the decision, with the length of the text that is kept.
use Rattle.std.specs.Prelude.{Bool, true, false, List, ℕ, length, Option, Some, None, Result, Ok, Err}
use Rattle.rules.specs.Decision.{decision}
use Rattle.rules.specs.TheWord.{Typed}
use Rattle.rules.specs.CodePoints.{shown}
use Rattle.rules.specs.Refusals.{same_bytes, refusal}
use Rattle.rules.specs.WhatComesBack.{typed, commit_call}
use Rattle.rules.specs.declared.Refusal.{Refusal}
use Rattle.rules.specs.declared.Decision.{Decision}
use Rattle.rules.specs.declared.Decision.TheVariants.{Keep as Kept, Restore as Restored}
use Rattle.commit.specs.declared.Ruling.{Ruling}
use Rattle.commit.specs.declared.Ruling.TheVariants.{Keep, Restore}

abbrev pub decided : Decision → List ℕ → Result Ruling Refusal
decided Kept text = Ok (Keep (length text))
decided Restored text = Ok Restore

-- of a word and a text: refusal 5 where the text isn't exactly what the word shows
abbrev pub judged_if : Bool → Typed → List ℕ → Result Ruling Refusal
judged_if true z text = decided (decision z) text
judged_if false z text = Err (record { number = 5; value = 0 })

abbrev pub judged : Typed → List ℕ → Result Ruling Refusal
judged z text = judged_if (same_bytes text (shown z.state)) z text

abbrev pub ruling_or : Option Refusal → ℕ → List ℕ → List ℕ → Result Ruling Refusal
ruling_or None m ks text = decided (decision (typed m ks)) text
ruling_or (Some x) m ks text = Err x

unfoldable pub ruling_of : ℕ → List ℕ → List ℕ → Result Ruling Refusal
ruling_of m ks text = ruling_or (refusal (commit_call m ks text)) m ks text

-- where the part that is handed back begins: the text where it is kept, else the keys
abbrev pub handed_from : Result Ruling Refusal → (keys text : ℕ × ℕ) → ℕ × ℕ
handed_from (Ok (Keep n)) keys text = text
handed_from (Ok Restore) keys text = keys
handed_from (Err x) keys text = keys
