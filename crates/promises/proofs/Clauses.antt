-- What the demands take for an entry's contract is the contract's own clause: the `ensures` of each entry is the fact that `Reads.Post` states, in every model.
use mathlib.Core.Path.{◌≡◌, refl}
use seplogic.Ra.Ura.{Ura}
use base.Logic.{SProp}
use prog.Memory.{Memory}
use prog.Routine.{Routine}
use types.Logic.{Logic}
use contract.Lifetimes.{Lfts}
use contract.Monad.{Fun, fact}
use denote.Triple.Entry.{Args, Res}
use denote.Triple.Clauses.{AtExit}
use Rattle.step.specs.contracts.step as step
use Rattle.step.proofs.step.Reads as step-reads
use Rattle.word.specs.contracts.start as start
use Rattle.word.proofs.start.Reads as start-reads
use Rattle.word.specs.contracts.type_all as type-all
use Rattle.word.proofs.type_all.Reads as type-all-reads
use Rattle.word.specs.contracts.place as place
use Rattle.word.proofs.place.Reads as place-reads
use Rattle.word.specs.contracts.verdict as verdict
use Rattle.word.proofs.verdict.Reads as verdict-reads
use Rattle.word.specs.contracts.decision as decision
use Rattle.word.proofs.decision.Reads as decision-reads
use Rattle.show.specs.contracts.show as show
use Rattle.show.proofs.show.Reads as show-reads
use Rattle.commit.specs.contracts.commit as commit
use Rattle.commit.proofs.commit.Reads as commit-reads
use Rattle.commit.specs.contracts.answer as answer
use Rattle.commit.proofs.answer.Reads as answer-reads
use Rattle.speller.specs.contracts.spell as spell
use Rattle.speller.proofs.spell.Reads as spell-reads
use Rattle.lines.specs.contracts.answer_line as answer-line
use Rattle.lines.proofs.answer_line.Reads as answer-line-reads
use Rattle.session.specs.contracts.Session.type_key as type-key
use Rattle.session.proofs.One.{KeyPost, type_key_says}
use Rattle.felcantuzza.specs.contracts.fz_start as fz-start
use Rattle.felcantuzza.proofs.fz_start.Reads as fz-start-reads
use Rattle.felcantuzza.specs.contracts.fz_type as fz-type
use Rattle.felcantuzza.proofs.fz_type.Reads as fz-type-reads
use Rattle.felcantuzza.specs.contracts.fz_type_and_show as fz-type-and-show
use Rattle.felcantuzza.proofs.fz_type_and_show.Reads as fz-type-and-show-reads
use Rattle.felcantuzza.specs.contracts.fz_show as fz-show
use Rattle.felcantuzza.proofs.fz_show.Reads as fz-show-reads
use Rattle.felcantuzza.specs.contracts.fz_verdict as fz-verdict
use Rattle.felcantuzza.proofs.fz_verdict.Reads as fz-verdict-reads
use Rattle.felcantuzza.specs.contracts.fz_place as fz-place
use Rattle.felcantuzza.proofs.fz_place.Reads as fz-place-reads
use Rattle.felcantuzza.specs.contracts.fz_decision as fz-decision
use Rattle.felcantuzza.proofs.fz_decision.Reads as fz-decision-reads
use Rattle.felcantuzza.specs.contracts.fz_commit as fz-commit
use Rattle.felcantuzza.proofs.fz_commit.Reads as fz-commit-reads
use Rattle.felcantuzza.specs.contracts.fz_spell as fz-spell
use Rattle.felcantuzza.proofs.fz_spell.Reads as fz-spell-reads
use Rattle.groups.specs.contracts.number_at as number_at
use Rattle.groups.proofs.number_at.Reads as number-at-reads
use Rattle.groups.specs.contracts.written as written
use Rattle.groups.proofs.written.Reads as written-reads
use Rattle.recording.specs.contracts.begin as begin
use Rattle.recording.proofs.begin.Reads as begin-reads
use Rattle.recording.specs.contracts.step_at as step-at
use Rattle.recording.proofs.step_at.Reads as step-at-reads
use Rattle.recording.specs.contracts.write as write
use Rattle.recording.proofs.write.Reads as write-reads
use Rattle.replay.specs.contracts.replay as replay
use Rattle.replay.proofs.replay.Reads as replay-reads
use Rattle.reader.specs.contracts.Reader.next_in as next-in
use Rattle.reader.proofs.One.{NextInPost, next_in_says}

module _ {M : Type 1} {𝓤 : Ura M} (𝓛 : Logic 𝓤) (mem : Memory → SProp 𝓤) (run : Routine → Fun 𝓤) where
  pub step_clause : (κs : Lfts 0) (a : Args step.signature κs) (r : Res step.signature κs) (e : AtExit step.ended κs) → (step.clauses 𝓛 mem run κs a).ensures tt r e ≡ fact 𝓤 (step-reads.Post κs a r e)
  step_clause κs a r e = refl

  pub start_clause : (κs : Lfts 0) (a : Args start.signature κs) (r : Res start.signature κs) (e : AtExit start.ended κs) → (start.clauses 𝓛 mem run κs a).ensures tt r e ≡ fact 𝓤 (start-reads.Post κs a r e)
  start_clause κs a r e = refl

  pub type_all_clause : (κs : Lfts 1) (a : Args type-all.signature κs) (r : Res type-all.signature κs) (e : AtExit type-all.ended κs) → (type-all.clauses 𝓛 mem run κs a).ensures tt r e ≡ fact 𝓤 (type-all-reads.Post κs a r e)
  type_all_clause κs a r e = refl

  pub place_clause : (κs : Lfts 0) (a : Args place.signature κs) (r : Res place.signature κs) (e : AtExit place.ended κs) → (place.clauses 𝓛 mem run κs a).ensures tt r e ≡ fact 𝓤 (place-reads.Post κs a r e)
  place_clause κs a r e = refl

  pub verdict_clause : (κs : Lfts 0) (a : Args verdict.signature κs) (r : Res verdict.signature κs) (e : AtExit verdict.ended κs) → (verdict.clauses 𝓛 mem run κs a).ensures tt r e ≡ fact 𝓤 (verdict-reads.Post κs a r e)
  verdict_clause κs a r e = refl

  pub decision_clause : (κs : Lfts 0) (a : Args decision.signature κs) (r : Res decision.signature κs) (e : AtExit decision.ended κs) → (decision.clauses 𝓛 mem run κs a).ensures tt r e ≡ fact 𝓤 (decision-reads.Post κs a r e)
  decision_clause κs a r e = refl

  pub show_clause : (κs : Lfts 1) (a : Args show.signature κs) (r : Res show.signature κs) (e : AtExit show.ended κs) → (show.clauses 𝓛 mem run κs a).ensures tt r e ≡ fact 𝓤 (show-reads.Post κs a r e)
  show_clause κs a r e = refl

  pub commit_clause : (κs : Lfts 1) (a : Args commit.signature κs) (r : Res commit.signature κs) (e : AtExit commit.ended κs) → (commit.clauses 𝓛 mem run κs a).ensures tt r e ≡ fact 𝓤 (commit-reads.Post κs a r e)
  commit_clause κs a r e = refl

  pub answer_clause : (κs : Lfts 2) (a : Args answer.signature κs) (r : Res answer.signature κs) (e : AtExit answer.ended κs) → (answer.clauses 𝓛 mem run κs a).ensures tt r e ≡ fact 𝓤 (answer-reads.Post κs a r e)
  answer_clause κs a r e = refl

  pub spell_clause : (κs : Lfts 2) (a : Args spell.signature κs) (r : Res spell.signature κs) (e : AtExit spell.ended κs) → (spell.clauses 𝓛 mem run κs a).ensures tt r e ≡ fact 𝓤 (spell-reads.Post κs a r e)
  spell_clause κs a r e = refl

  pub answer_line_clause : (κs : Lfts 2) (a : Args answer-line.signature κs) (r : Res answer-line.signature κs) (e : AtExit answer-line.ended κs) → (answer-line.clauses 𝓛 mem run κs a).ensures tt r e ≡ fact 𝓤 (answer-line-reads.Post κs a r e)
  answer_line_clause κs a r e = refl

  pub type_key_clause : (κs : Lfts 1) (a : Args type-key.signature κs) (r : Res type-key.signature κs) (e : AtExit type-key.ended κs) → (type-key.clauses 𝓛 mem run κs a).ensures tt r e ≡ fact 𝓤 (KeyPost κs a r e)
  type_key_clause κs a r e = type_key_says 𝓛 mem run κs a r e

  pub fz_start_clause : (κs : Lfts 2) (a : Args fz-start.signature κs) (r : Res fz-start.signature κs) (e : AtExit fz-start.ended κs) → (fz-start.clauses 𝓛 mem run κs a).ensures tt r e ≡ fact 𝓤 (fz-start-reads.Post κs a r e)
  fz_start_clause κs a r e = refl

  pub fz_type_clause : (κs : Lfts 2) (a : Args fz-type.signature κs) (r : Res fz-type.signature κs) (e : AtExit fz-type.ended κs) → (fz-type.clauses 𝓛 mem run κs a).ensures tt r e ≡ fact 𝓤 (fz-type-reads.Post κs a r e)
  fz_type_clause κs a r e = refl

  pub fz_show_clause : (κs : Lfts 3) (a : Args fz-show.signature κs) (r : Res fz-show.signature κs) (e : AtExit fz-show.ended κs) → (fz-show.clauses 𝓛 mem run κs a).ensures tt r e ≡ fact 𝓤 (fz-show-reads.Post κs a r e)
  fz_show_clause κs a r e = refl

  pub fz_verdict_clause : (κs : Lfts 2) (a : Args fz-verdict.signature κs) (r : Res fz-verdict.signature κs) (e : AtExit fz-verdict.ended κs) → (fz-verdict.clauses 𝓛 mem run κs a).ensures tt r e ≡ fact 𝓤 (fz-verdict-reads.Post κs a r e)
  fz_verdict_clause κs a r e = refl

  pub fz_place_clause : (κs : Lfts 2) (a : Args fz-place.signature κs) (r : Res fz-place.signature κs) (e : AtExit fz-place.ended κs) → (fz-place.clauses 𝓛 mem run κs a).ensures tt r e ≡ fact 𝓤 (fz-place-reads.Post κs a r e)
  fz_place_clause κs a r e = refl

  pub fz_decision_clause : (κs : Lfts 2) (a : Args fz-decision.signature κs) (r : Res fz-decision.signature κs) (e : AtExit fz-decision.ended κs) → (fz-decision.clauses 𝓛 mem run κs a).ensures tt r e ≡ fact 𝓤 (fz-decision-reads.Post κs a r e)
  fz_decision_clause κs a r e = refl

  pub fz_commit_clause : (κs : Lfts 3) (a : Args fz-commit.signature κs) (r : Res fz-commit.signature κs) (e : AtExit fz-commit.ended κs) → (fz-commit.clauses 𝓛 mem run κs a).ensures tt r e ≡ fact 𝓤 (fz-commit-reads.Post κs a r e)
  fz_commit_clause κs a r e = refl

  pub fz_spell_clause : (κs : Lfts 3) (a : Args fz-spell.signature κs) (r : Res fz-spell.signature κs) (e : AtExit fz-spell.ended κs) → (fz-spell.clauses 𝓛 mem run κs a).ensures tt r e ≡ fact 𝓤 (fz-spell-reads.Post κs a r e)
  fz_spell_clause κs a r e = refl

  pub fz_type_and_show_clause : (κs : Lfts 4) (a : Args fz-type-and-show.signature κs) (r : Res fz-type-and-show.signature κs) (e : AtExit fz-type-and-show.ended κs) → (fz-type-and-show.clauses 𝓛 mem run κs a).ensures tt r e ≡ fact 𝓤 (fz-type-and-show-reads.Post κs a r e)
  fz_type_and_show_clause κs a r e = refl

  pub number_at_clause : (κs : Lfts 1) (a : Args number_at.signature κs) (r : Res number_at.signature κs) (e : AtExit number_at.ended κs) → (number_at.clauses 𝓛 mem run κs a).ensures tt r e ≡ fact 𝓤 (number-at-reads.Post κs a r e)
  number_at_clause κs a r e = refl

  pub written_clause : (κs : Lfts 0) (a : Args written.signature κs) (r : Res written.signature κs) (e : AtExit written.ended κs) → (written.clauses 𝓛 mem run κs a).ensures tt r e ≡ fact 𝓤 (written-reads.Post κs a r e)
  written_clause κs a r e = refl

  pub begin_clause : (κs : Lfts 1) (a : Args begin.signature κs) (r : Res begin.signature κs) (e : AtExit begin.ended κs) → (begin.clauses 𝓛 mem run κs a).ensures tt r e ≡ fact 𝓤 (begin-reads.Post κs a r e)
  begin_clause κs a r e = refl

  pub step_at_clause : (κs : Lfts 1) (a : Args step-at.signature κs) (r : Res step-at.signature κs) (e : AtExit step-at.ended κs) → (step-at.clauses 𝓛 mem run κs a).ensures tt r e ≡ fact 𝓤 (step-at-reads.Post κs a r e)
  step_at_clause κs a r e = refl

  pub write_clause : (κs : Lfts 2) (a : Args write.signature κs) (r : Res write.signature κs) (e : AtExit write.ended κs) → (write.clauses 𝓛 mem run κs a).ensures tt r e ≡ fact 𝓤 (write-reads.Post κs a r e)
  write_clause κs a r e = refl

  pub replay_clause : (κs : Lfts 2) (a : Args replay.signature κs) (r : Res replay.signature κs) (e : AtExit replay.ended κs) → (replay.clauses 𝓛 mem run κs a).ensures tt r e ≡ fact 𝓤 (replay-reads.Post κs a r e)
  replay_clause κs a r e = refl

  pub next_in_clause : (κs : Lfts 2) (a : Args next-in.signature κs) (r : Res next-in.signature κs) (e : AtExit next-in.ended κs) → (next-in.clauses 𝓛 mem run κs a).ensures tt r e ≡ fact 𝓤 (NextInPost κs a r e)
  next_in_clause κs a r e = next_in_says 𝓛 mem run κs a r e
