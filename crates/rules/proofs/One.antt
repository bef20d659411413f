-- One possible result: any two results that a contract allows at the same arguments are equal.
use mathlib.Core.Path.{◌≡◌, sym, ◌∙◌}
use contract.Lifetimes.{Lfts}
use denote.Param.Laws.{Laws}
use denote.RattleType.{RattleType}
use denote.Triple.Entry.{Args, Res}
use denote.Triple.Clauses.{AtExit}
use Rattle.rules.specs.contracts.Word.telex as telex
use Rattle.rules.proofs.Word.telex.Reads as telex-reads
use Rattle.rules.specs.contracts.Word.vni as vni
use Rattle.rules.proofs.Word.vni.Reads as vni-reads
use Rattle.rules.specs.contracts.base as base
use Rattle.rules.proofs.base.Reads as base-reads
use Rattle.rules.specs.contracts.shape as shape
use Rattle.rules.proofs.shape.Reads as shape-reads
use Rattle.rules.specs.contracts.is_capital as is-capital
use Rattle.rules.proofs.is_capital.Reads as is-capital-reads
use Rattle.rules.specs.contracts.is as is_letter
use Rattle.rules.proofs.is.Reads as is-reads
use Rattle.rules.specs.contracts.reshaped as reshaped
use Rattle.rules.proofs.reshaped.Reads as reshaped-reads
use Rattle.rules.specs.contracts.refuse as refuse
use Rattle.rules.proofs.refuse.Reads as refuse-reads

pub telex_one : (κs : Lfts 0) (a : Args telex.signature κs) (r r' : Res telex.signature κs) (e e' : AtExit telex.ended κs) → telex-reads.Post κs a r e → telex-reads.Post κs a r' e' → r ≡ r'
telex_one κs a r r' e e' p p' = p ∙ sym p'

pub vni_one : (κs : Lfts 0) (a : Args vni.signature κs) (r r' : Res vni.signature κs) (e e' : AtExit vni.ended κs) → vni-reads.Post κs a r e → vni-reads.Post κs a r' e' → r ≡ r'
vni_one κs a r r' e e' p p' = p ∙ sym p'

pub base_one : (κs : Lfts 0) (a : Args base.signature κs) (r r' : Res base.signature κs) (e e' : AtExit base.ended κs) → base-reads.Post κs a r e → base-reads.Post κs a r' e' → r ≡ r'
base_one κs a r r' e e' p p' = p ∙ sym p'

pub shape_one : (κs : Lfts 0) (a : Args shape.signature κs) (r r' : Res shape.signature κs) (e e' : AtExit shape.ended κs) → shape-reads.Post κs a r e → shape-reads.Post κs a r' e' → r ≡ r'
shape_one κs a r r' e e' p p' = p ∙ sym p'

pub is_capital_one : (κs : Lfts 0) (a : Args is-capital.signature κs) (r r' : Res is-capital.signature κs) (e e' : AtExit is-capital.ended κs) → is-capital-reads.Post κs a r e → is-capital-reads.Post κs a r' e' → r ≡ r'
is_capital_one κs a r r' e e' p p' = p ∙ sym p'

pub is_one : (κs : Lfts 0) (a : Args is_letter.signature κs) (r r' : Res is_letter.signature κs) (e e' : AtExit is_letter.ended κs) → is-reads.Post κs a r e → is-reads.Post κs a r' e' → r ≡ r'
is_one κs a r r' e e' p p' = p ∙ sym p'

pub reshaped_one : (κs : Lfts 0) (a : Args reshaped.signature κs) (r r' : Res reshaped.signature κs) (e e' : AtExit reshaped.ended κs) → reshaped-reads.Post κs a r e → reshaped-reads.Post κs a r' e' → r ≡ r'
reshaped_one κs a r r' e e' p p' = p ∙ sym p'

pub refuse_one : (T : RattleType) (laws : Laws T) (κs : Lfts 1) (a : Args (refuse.signature T) κs) (r r' : Res (refuse.signature T) κs) (e e' : AtExit (refuse.ended T) κs) → refuse-reads.Post T laws κs a r e → refuse-reads.Post T laws κs a r' e' → r ≡ r'
refuse_one T laws κs a r r' e e' p p' = p ∙ sym p'
