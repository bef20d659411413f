-- One possible result: any two results that a contract allows at the same arguments are equal.
use mathlib.Core.Path.{◌≡◌, sym, ◌∙◌}
use contract.Lifetimes.{Lfts}
use denote.Triple.Entry.{Args, Res}
use denote.Triple.Clauses.{AtExit}
use Rattle.word.specs.contracts.start as start
use Rattle.word.proofs.start.Reads as start-reads
use Rattle.word.specs.contracts.type_all as type-all
use Rattle.word.proofs.type_all.Reads as type-all-reads
use Rattle.word.specs.contracts.place as place
use Rattle.word.proofs.place.Reads as place-reads
use Rattle.word.specs.contracts.verdict as verdict
use Rattle.word.proofs.verdict.Reads as verdict-reads
use Rattle.word.specs.contracts.decided as decided
use Rattle.word.proofs.decided.Reads as decided-reads
use Rattle.word.specs.contracts.decision as decision
use Rattle.word.proofs.decision.Reads as decision-reads

pub start_one : (κs : Lfts 0) (a : Args start.signature κs) (r r' : Res start.signature κs) (e e' : AtExit start.ended κs) → start-reads.Post κs a r e → start-reads.Post κs a r' e' → r ≡ r'
start_one κs a r r' e e' p p' = p ∙ sym p'

pub type_all_one : (κs : Lfts 1) (a : Args type-all.signature κs) (r r' : Res type-all.signature κs) (e e' : AtExit type-all.ended κs) → type-all-reads.Post κs a r e → type-all-reads.Post κs a r' e' → r ≡ r'
type_all_one κs a r r' e e' p p' = p ∙ sym p'

pub place_one : (κs : Lfts 0) (a : Args place.signature κs) (r r' : Res place.signature κs) (e e' : AtExit place.ended κs) → place-reads.Post κs a r e → place-reads.Post κs a r' e' → r ≡ r'
place_one κs a r r' e e' p p' = p ∙ sym p'

pub verdict_one : (κs : Lfts 0) (a : Args verdict.signature κs) (r r' : Res verdict.signature κs) (e e' : AtExit verdict.ended κs) → verdict-reads.Post κs a r e → verdict-reads.Post κs a r' e' → r ≡ r'
verdict_one κs a r r' e e' p p' = p ∙ sym p'

pub decision_one : (κs : Lfts 0) (a : Args decision.signature κs) (r r' : Res decision.signature κs) (e e' : AtExit decision.ended κs) → decision-reads.Post κs a r e → decision-reads.Post κs a r' e' → r ≡ r'
decision_one κs a r r' e e' p p' = p ∙ sym p'

pub decided_one : (κs : Lfts 1) (a : Args decided.signature κs) (r r' : Res decided.signature κs) (e e' : AtExit decided.ended κs) → decided-reads.Post κs a r e → decided-reads.Post κs a r' e' → r ≡ r'
decided_one κs a r r' e e' p p' = p ∙ sym p'
