-- What each call of the box says, from the rules' whole answers and their numbers, and the lent bytes when it returns.
use Rattle.std.specs.Prelude.{Bool, true, false, List, [], ◌∷◌, ℕ, ◌+◌, ◌*◌, Option, Some, None, Result, Ok, Err}
use Rattle.rules.specs.AnswersInNumbers.{Says, refused, answered, refusing, outcome_numbers, decision_number, start_says, step_says, write_says, place_says, verdict_says, decision_says}
use Rattle.rules.specs.Refusals.{refusal}
use Rattle.rules.specs.Decision as Decided
use Rattle.rules.specs.WhatComesBack as Rules
use Rattle.rules.specs.declared.Refusal.{Refusal}
use Rattle.rules.specs.declared.Decision.{Decision}
use Rattle.layout.specs.Places.{is_long, record_written, is_record, held}
use Rattle.press.specs.StepAndShow.{step_and_show}
use Rattle.rules.specs.declared.Outcome.{Outcome}

-- 0 where the call is answered, else the refusal's number
abbrev pub returned : Says → ℕ
returned (answered ns) = 0
returned (refused n v) = n

-- the answer's numbers as one, or the refusal's value
abbrev pub value_by : (List ℕ → ℕ) → Says → ℕ
value_by one (answered ns) = one ns
value_by one (refused n v) = v

-- an answer with one number, or the refusal
abbrev pub number_by : (List ℕ → ℕ) → Says → Result ℕ Refusal
number_by one (answered ns) = Ok (one ns)
number_by one (refused n v) = Err (record { number = n; value = v })

-- 16 times the kind of what a key did, and the tone or the shape
abbrev pub in_one : List ℕ → ℕ
in_one [] = 0
in_one (kind ∷ []) = 16 * kind
in_one (kind ∷ detail ∷ ns) = 16 * kind + detail

-- a single number; 0 where there is none
abbrev pub only_one : List ℕ → ℕ
only_one [] = 0
only_one (n ∷ ns) = n

-- the place of the tone; 255 where it has none
abbrev pub placed : List ℕ → ℕ
placed [] = 255
placed (n ∷ ns) = n

-- lent bytes are changed by a call that is answered, and left as they were by one that is refused
abbrev pub unless_refused : Says → List ℕ → List ℕ → List ℕ
unless_refused (answered ns) new old = new
unless_refused (refused n v) new old = old

-- what is said of a record; bytes that are none are refusal 8 with 0
abbrev pub of_record : Bool → Says → Says
of_record true s = s
of_record false s = refused 8 0

-- the refusal of bytes that are no record
abbrev pub no_record : Refusal
no_record = record { number = 8; value = 0 }

unfoldable pub start : ℕ → List ℕ → Says
start mode lent = of_record (is_long lent) (start_says (Rules.start mode).answer)

abbrev pub start_word : ℕ → List ℕ → List ℕ
start_word mode lent = unless_refused (start mode lent) (record_written (Rules.start mode).word lent) lent

unfoldable pub type : List ℕ → ℕ → Says
type lent key = of_record (is_record lent) (step_says (Rules.step (held lent) key).answer)

abbrev pub type_word : List ℕ → ℕ → List ℕ
type_word lent key = unless_refused (type lent key) (record_written (Rules.step (held lent) key).word lent) lent

-- the bytes written, and behind them what the key did
abbrev pub shown_says : Result (Outcome × ℕ) Refusal → Says
shown_says (Ok (o, n)) = answered (n ∷ outcome_numbers o)
shown_says (Err r) = refusing r

-- what the key did, in one as `type` gives it; 0 where the call is refused
abbrev pub did : Says → ℕ
did (answered []) = 0
did (answered (n ∷ ns)) = in_one ns
did (refused n v) = 0

unfoldable pub type_and_show : List ℕ → ℕ → List ℕ → Says
type_and_show lent key out = of_record (is_record lent) (shown_says (step_and_show (held lent) key out).result.answer)

abbrev pub type_and_show_word : List ℕ → ℕ → List ℕ → List ℕ
type_and_show_word lent key out = unless_refused (type_and_show lent key out) (record_written (step_and_show (held lent) key out).result.word lent) lent

abbrev pub type_and_show_output : List ℕ → ℕ → List ℕ → List ℕ
type_and_show_output lent key out = unless_refused (type_and_show lent key out) (step_and_show (held lent) key out).output out

unfoldable pub show : List ℕ → List ℕ → Says
show lent out = of_record (is_record lent) (write_says (Rules.show (held lent) out).answer)

abbrev pub show_output : List ℕ → List ℕ → List ℕ
show_output lent out = unless_refused (show lent out) (Rules.show (held lent) out).output out

unfoldable pub verdict : List ℕ → Says
verdict lent = of_record (is_record lent) (verdict_says (Rules.verdict_answer (held lent)))

unfoldable pub place : List ℕ → Says
place lent = of_record (is_record lent) (place_says (Rules.place_answer (held lent)))

unfoldable pub decision : List ℕ → Says
decision lent = of_record (is_record lent) (decision_says (Rules.decision_answer (held lent)))

-- commit and its question in one: the decision on the word that the keys make
abbrev pub commit_or : Option Refusal → Decision → Says
commit_or None d = answered (decision_number d ∷ [])
commit_or (Some r) d = refusing r

unfoldable pub commit : ℕ → List ℕ → List ℕ → Says
commit mode keys text = commit_or (refusal (Rules.commit_call mode keys text)) (Decided.decision (Rules.typed mode keys))

unfoldable pub spell : ℕ → List ℕ → List ℕ → Says
spell mode text out = write_says (Rules.spell mode text out).answer

abbrev pub spell_output : ℕ → List ℕ → List ℕ → List ℕ
spell_output mode text out = (Rules.spell mode text out).output
