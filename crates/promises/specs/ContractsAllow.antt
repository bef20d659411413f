-- What the contract of each entry allows: of these arguments this result, and of a lent output these bytes before and after.
use Rattle.std.specs.Prelude.{◌≡◌, List, ℕ, Option, Result, ⊤}
use contract.Lifetimes.{Lfts}
use denote.Triple.Entry.{Args, Res}
use denote.Triple.Clauses.{AtExit}
use Rattle.rules.specs.declared.Word.{Word}
use Rattle.rules.specs.declared.Start.{Start}
use Rattle.rules.specs.declared.Step.{Step}
use Rattle.rules.specs.declared.TypeAll.{TypeAll}
use Rattle.lines.specs.declared.Program.{Program}
use Rattle.session.specs.declared.Session.{Session}
use Rattle.step.specs.contracts.step as step
use Rattle.step.proofs.step.Reads as step-reads
use Rattle.word.specs.contracts.start as start
use Rattle.word.proofs.start.Reads as start-reads
use Rattle.word.specs.contracts.type_all as type-all
use Rattle.word.proofs.type_all.Reads as type-all-reads
use Rattle.word.specs.contracts.place as place
use Rattle.word.proofs.place.Reads as place-reads
use Rattle.word.specs.contracts.verdict as verdict
use Rattle.word.proofs.verdict.Reads as verdict-reads
use Rattle.word.specs.contracts.decision as decision
use Rattle.word.proofs.decision.Reads as decision-reads
use Rattle.show.specs.contracts.show as show
use Rattle.show.proofs.show.Reads as show-reads
use Rattle.commit.specs.contracts.commit as commit
use Rattle.commit.proofs.commit.Reads as commit-reads
use Rattle.commit.specs.contracts.answer as answer
use Rattle.commit.proofs.answer.Reads as answer-reads
use Rattle.speller.specs.contracts.spell as spell
use Rattle.speller.proofs.spell.Reads as spell-reads
use Rattle.lines.specs.contracts.answer_line as answer-line
use Rattle.lines.proofs.answer_line.Reads as answer-line-reads
use Rattle.session.specs.contracts.Session.type_key as type-key
use Rattle.session.proofs.One.{KeyPost}
use Rattle.rules.specs.declared.Refusal.{Refusal}
use Rattle.rules.specs.declared.Outcome.{Outcome}
use Rattle.rules.specs.declared.Decision.{Decision}

-- start: a mode
pub record StartAllows (m : ℕ) (r : Start) : Type 0 where
  pub lifetimes : Lfts 0
  pub exit : AtExit start.ended lifetimes
  pub post : start-reads.Post lifetimes (m, tt) r exit

-- step: a word and a key
pub record StepAllows (w : Word) (k : ℕ) (r : Step) : Type 0 where
  pub lifetimes : Lfts 0
  pub exit : AtExit step.ended lifetimes
  pub post : step-reads.Post lifetimes (w, (k, tt)) r exit

-- typing a whole list: a mode and keys
pub record TypeAllows (m : ℕ) (ks : List ℕ) (r : TypeAll) : Type 0 where
  pub lifetimes : Lfts 1
  pub args : Args type-all.signature lifetimes
  pub exit : AtExit type-all.ended lifetimes
  pub mode : args.0 ≡ m
  pub keys : args.1.0.now ≡ ks
  pub post : type-all-reads.Post lifetimes args r exit

-- show: a word, and the output before and after
pub record ShowAllows (w : Word) (before : List ℕ) (r : Result ℕ Refusal) (after : List ℕ) : Type 0 where
  pub lifetimes : Lfts 1
  pub args : Args show.signature lifetimes
  pub exit : AtExit show.ended lifetimes
  pub of_word : args.0 ≡ w
  pub at_entry : args.1.0.now ≡ before
  pub at_exit : exit.1.0.now ≡ after
  pub post : show-reads.Post lifetimes args r exit

-- the tone's place, the verdict and the decision: a word
pub record PlaceAllows (w : Word) (r : Result (Option ℕ) Refusal) : Type 0 where
  pub lifetimes : Lfts 0
  pub exit : AtExit place.ended lifetimes
  pub post : place-reads.Post lifetimes (w, tt) r exit

pub record VerdictAllows (w : Word) (r : Result ℕ Refusal) : Type 0 where
  pub lifetimes : Lfts 0
  pub exit : AtExit verdict.ended lifetimes
  pub post : verdict-reads.Post lifetimes (w, tt) r exit

pub record DecisionAllows (w : Word) (r : Result Decision Refusal) : Type 0 where
  pub lifetimes : Lfts 0
  pub exit : AtExit decision.ended lifetimes
  pub post : decision-reads.Post lifetimes (w, tt) r exit

-- commit, and the question on the same input: a mode, keys and a text; of the part handed back its bytes
pub record CommitAllows (m : ℕ) (ks text part : List ℕ) : Type 0 where
  pub lifetimes : Lfts 1
  pub args : Args commit.signature lifetimes
  pub result : Res commit.signature lifetimes
  pub exit : AtExit commit.ended lifetimes
  pub mode : args.0 ≡ m
  pub keys : args.1.0.now ≡ ks
  pub of_text : args.1.1.0.now ≡ text
  pub part_is : result.now ≡ part
  pub post : commit-reads.Post lifetimes args result exit

pub record QuestionAllows (m : ℕ) (ks text : List ℕ) (r : Result ⊤ Refusal) : Type 0 where
  pub lifetimes : Lfts 2
  pub args : Args answer.signature lifetimes
  pub exit : AtExit answer.ended lifetimes
  pub mode : args.0 ≡ m
  pub keys : args.1.0.now ≡ ks
  pub of_text : args.1.1.0.now ≡ text
  pub post : answer-reads.Post lifetimes args r exit

-- speller: a mode, a text, and the output before and after
pub record SpellAllows (m : ℕ) (text : List ℕ) (before : List ℕ) (r : Result ℕ Refusal) (after : List ℕ) : Type 0 where
  pub lifetimes : Lfts 2
  pub args : Args spell.signature lifetimes
  pub exit : AtExit spell.ended lifetimes
  pub mode : args.0 ≡ m
  pub of_text : args.1.0.now ≡ text
  pub at_entry : args.1.1.0.now ≡ before
  pub at_exit : exit.1.1.0.now ≡ after
  pub post : spell-reads.Post lifetimes args r exit

-- a line of a program: the line, and the output before and after
pub record LineAllows (p : Program) (line before : List ℕ) (r : Result ℕ Refusal) (after : List ℕ) : Type 0 where
  pub lifetimes : Lfts 2
  pub args : Args answer-line.signature lifetimes
  pub exit : AtExit answer-line.ended lifetimes
  pub of_program : args.0 ≡ p
  pub of_line : args.1.0.now ≡ line
  pub at_entry : args.1.1.0.now ≡ before
  pub at_exit : exit.1.1.0.now ≡ after
  pub post : answer-line-reads.Post lifetimes args r exit

-- a key typed into a session: the session before and after. `KeyPost` is the text of its contract.
pub record KeyAllows (before : Session) (k : ℕ) (r : Result Outcome Refusal) (after : Session) : Type 0 where
  pub lifetimes : Lfts 1
  pub args : Args type-key.signature lifetimes
  pub exit : AtExit type-key.ended lifetimes
  pub at_entry : args.0.now ≡ before
  pub key : args.1.0 ≡ k
  pub at_exit : exit.0.now ≡ after
  pub post : KeyPost lifetimes args r exit
