-- One possible result: any two results that a contract allows at the same arguments are equal, and so are the values and the lent bytes and numbers.
use mathlib.Core.Path.{◌≡◌, sym, ◌∙◌}
use contract.Lifetimes.{Lfts}
use denote.Triple.Entry.{Args, Res}
use denote.Triple.Clauses.{AtExit}
use Rattle.felcantuzza.specs.contracts.fz_start as fz-start
use Rattle.felcantuzza.proofs.fz_start.Reads as fz-start-reads
use Rattle.felcantuzza.specs.contracts.fz_type as fz-type
use Rattle.felcantuzza.proofs.fz_type.Reads as fz-type-reads
use Rattle.felcantuzza.specs.contracts.fz_type_and_show as fz-type-and-show
use Rattle.felcantuzza.proofs.fz_type_and_show.Reads as fz-type-and-show-reads
use Rattle.felcantuzza.specs.contracts.fz_show as fz-show
use Rattle.felcantuzza.proofs.fz_show.Reads as fz-show-reads
use Rattle.felcantuzza.specs.contracts.fz_verdict as fz-verdict
use Rattle.felcantuzza.proofs.fz_verdict.Reads as fz-verdict-reads
use Rattle.felcantuzza.specs.contracts.fz_place as fz-place
use Rattle.felcantuzza.proofs.fz_place.Reads as fz-place-reads
use Rattle.felcantuzza.specs.contracts.fz_decision as fz-decision
use Rattle.felcantuzza.proofs.fz_decision.Reads as fz-decision-reads
use Rattle.felcantuzza.specs.contracts.fz_commit as fz-commit
use Rattle.felcantuzza.proofs.fz_commit.Reads as fz-commit-reads
use Rattle.felcantuzza.specs.contracts.fz_spell as fz-spell
use Rattle.felcantuzza.proofs.fz_spell.Reads as fz-spell-reads
use Rattle.felcantuzza.specs.contracts.fz_record as fz-record
use Rattle.felcantuzza.proofs.fz_record.Reads as fz-record-reads
use Rattle.felcantuzza.specs.contracts.fz_begin as fz-begin
use Rattle.felcantuzza.proofs.fz_begin.Reads as fz-begin-reads
use Rattle.felcantuzza.specs.contracts.fz_next as fz-next
use Rattle.felcantuzza.proofs.fz_next.Reads as fz-next-reads
use Rattle.felcantuzza.specs.contracts.fz_replay as fz-replay
use Rattle.felcantuzza.proofs.fz_replay.Reads as fz-replay-reads

pub fz_start_one : (κs : Lfts 2) (a : Args fz-start.signature κs) (r r' : Res fz-start.signature κs) (e e' : AtExit fz-start.ended κs) → fz-start-reads.Post κs a r e → fz-start-reads.Post κs a r' e' → (r ≡ r') × (e.1.1.0.now ≡ e'.1.1.0.now) × (e.1.0.now ≡ e'.1.0.now)
fz_start_one κs a r r' e e' p p' = (p.0 ∙ sym p'.0, p.1 ∙ sym p'.1, p.2 ∙ sym p'.2)

pub fz_type_one : (κs : Lfts 2) (a : Args fz-type.signature κs) (r r' : Res fz-type.signature κs) (e e' : AtExit fz-type.ended κs) → fz-type-reads.Post κs a r e → fz-type-reads.Post κs a r' e' → (r ≡ r') × (e.1.1.0.now ≡ e'.1.1.0.now) × (e.0.now ≡ e'.0.now)
fz_type_one κs a r r' e e' p p' = (p.0 ∙ sym p'.0, p.1 ∙ sym p'.1, p.2 ∙ sym p'.2)

pub fz_type_and_show_one : (κs : Lfts 4) (a : Args fz-type-and-show.signature κs) (r r' : Res fz-type-and-show.signature κs) (e e' : AtExit fz-type-and-show.ended κs) → fz-type-and-show-reads.Post κs a r e → fz-type-and-show-reads.Post κs a r' e' → (r ≡ r') × (e.1.1.1.0.now ≡ e'.1.1.1.0.now) × (e.1.1.1.1.0.now ≡ e'.1.1.1.1.0.now) × (e.0.now ≡ e'.0.now) × (e.1.1.0.now ≡ e'.1.1.0.now)
fz_type_and_show_one κs a r r' e e' p p' = (p.0 ∙ sym p'.0, p.1 ∙ sym p'.1, p.2 ∙ sym p'.2, p.3 ∙ sym p'.3, p.4 ∙ sym p'.4)

pub fz_show_one : (κs : Lfts 3) (a : Args fz-show.signature κs) (r r' : Res fz-show.signature κs) (e e' : AtExit fz-show.ended κs) → fz-show-reads.Post κs a r e → fz-show-reads.Post κs a r' e' → (r ≡ r') × (e.1.1.0.now ≡ e'.1.1.0.now) × (e.1.0.now ≡ e'.1.0.now)
fz_show_one κs a r r' e e' p p' = (p.0 ∙ sym p'.0, p.1 ∙ sym p'.1, p.2 ∙ sym p'.2)

pub fz_verdict_one : (κs : Lfts 2) (a : Args fz-verdict.signature κs) (r r' : Res fz-verdict.signature κs) (e e' : AtExit fz-verdict.ended κs) → fz-verdict-reads.Post κs a r e → fz-verdict-reads.Post κs a r' e' → (r ≡ r') × (e.1.0.now ≡ e'.1.0.now)
fz_verdict_one κs a r r' e e' p p' = (p.0 ∙ sym p'.0, p.1 ∙ sym p'.1)

pub fz_place_one : (κs : Lfts 2) (a : Args fz-place.signature κs) (r r' : Res fz-place.signature κs) (e e' : AtExit fz-place.ended κs) → fz-place-reads.Post κs a r e → fz-place-reads.Post κs a r' e' → (r ≡ r') × (e.1.0.now ≡ e'.1.0.now)
fz_place_one κs a r r' e e' p p' = (p.0 ∙ sym p'.0, p.1 ∙ sym p'.1)

pub fz_decision_one : (κs : Lfts 2) (a : Args fz-decision.signature κs) (r r' : Res fz-decision.signature κs) (e e' : AtExit fz-decision.ended κs) → fz-decision-reads.Post κs a r e → fz-decision-reads.Post κs a r' e' → (r ≡ r') × (e.1.0.now ≡ e'.1.0.now)
fz_decision_one κs a r r' e e' p p' = (p.0 ∙ sym p'.0, p.1 ∙ sym p'.1)

pub fz_commit_one : (κs : Lfts 3) (a : Args fz-commit.signature κs) (r r' : Res fz-commit.signature κs) (e e' : AtExit fz-commit.ended κs) → fz-commit-reads.Post κs a r e → fz-commit-reads.Post κs a r' e' → (r ≡ r') × (e.1.1.1.0.now ≡ e'.1.1.1.0.now)
fz_commit_one κs a r r' e e' p p' = (p.0 ∙ sym p'.0, p.1 ∙ sym p'.1)

pub fz_spell_one : (κs : Lfts 3) (a : Args fz-spell.signature κs) (r r' : Res fz-spell.signature κs) (e e' : AtExit fz-spell.ended κs) → fz-spell-reads.Post κs a r e → fz-spell-reads.Post κs a r' e' → (r ≡ r') × (e.1.1.1.0.now ≡ e'.1.1.1.0.now) × (e.1.1.0.now ≡ e'.1.1.0.now)
fz_spell_one κs a r r' e e' p p' = (p.0 ∙ sym p'.0, p.1 ∙ sym p'.1, p.2 ∙ sym p'.2)

pub fz_record_one : (κs : Lfts 3) (a : Args fz-record.signature κs) (r r' : Res fz-record.signature κs) (e e' : AtExit fz-record.ended κs) → fz-record-reads.Post κs a r e → fz-record-reads.Post κs a r' e' → (r ≡ r') × (e.1.1.1.0.now ≡ e'.1.1.1.0.now) × (e.1.1.0.now ≡ e'.1.1.0.now)
fz_record_one κs a r r' e e' p p' = (p.0 ∙ sym p'.0, p.1 ∙ sym p'.1, p.2 ∙ sym p'.2)

pub fz_begin_one : (κs : Lfts 3) (a : Args fz-begin.signature κs) (r r' : Res fz-begin.signature κs) (e e' : AtExit fz-begin.ended κs) → fz-begin-reads.Post κs a r e → fz-begin-reads.Post κs a r' e' → (r ≡ r') × (e.1.1.0.now ≡ e'.1.1.0.now) × (e.1.0.now ≡ e'.1.0.now)
fz_begin_one κs a r r' e e' p p' = (p.0 ∙ sym p'.0, p.1 ∙ sym p'.1, p.2 ∙ sym p'.2)

pub fz_next_one : (κs : Lfts 5) (a : Args fz-next.signature κs) (r r' : Res fz-next.signature κs) (e e' : AtExit fz-next.ended κs) → fz-next-reads.Post κs a r e → fz-next-reads.Post κs a r' e' → (r ≡ r') × (e.1.1.1.1.1.0.now ≡ e'.1.1.1.1.1.0.now) × (e.1.1.0.now ≡ e'.1.1.0.now) × (e.1.1.1.0.now ≡ e'.1.1.1.0.now) × (e.1.1.1.1.0.now ≡ e'.1.1.1.1.0.now)
fz_next_one κs a r r' e e' p p' = (p.0 ∙ sym p'.0, p.1 ∙ sym p'.1, p.2 ∙ sym p'.2, p.3 ∙ sym p'.3, p.4 ∙ sym p'.4)

pub fz_replay_one : (κs : Lfts 4) (a : Args fz-replay.signature κs) (r r' : Res fz-replay.signature κs) (e e' : AtExit fz-replay.ended κs) → fz-replay-reads.Post κs a r e → fz-replay-reads.Post κs a r' e' → (r ≡ r') × (e.1.1.1.0.now ≡ e'.1.1.1.0.now) × (e.1.0.now ≡ e'.1.0.now) × (e.1.1.0.now ≡ e'.1.1.0.now)
fz_replay_one κs a r r' e e' p p' = (p.0 ∙ sym p'.0, p.1 ∙ sym p'.1, p.2 ∙ sym p'.2, p.3 ∙ sym p'.3)
