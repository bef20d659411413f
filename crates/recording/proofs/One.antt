-- One possible result: any two results that a contract allows at the same arguments are equal, and so are the outputs.
use mathlib.Core.Path.{◌≡◌, sym, ◌∙◌}
use contract.Lifetimes.{Lfts}
use denote.Triple.Entry.{Args, Res}
use denote.Triple.Clauses.{AtExit}
use Rattle.recording.specs.contracts.begin as begin
use Rattle.recording.proofs.begin.Reads as begin-reads
use Rattle.recording.specs.contracts.step_at as step-at
use Rattle.recording.proofs.step_at.Reads as step-at-reads
use Rattle.recording.specs.contracts.write as write
use Rattle.recording.proofs.write.Reads as write-reads

pub begin_one : (κs : Lfts 1) (a : Args begin.signature κs) (r r' : Res begin.signature κs) (e e' : AtExit begin.ended κs) → begin-reads.Post κs a r e → begin-reads.Post κs a r' e' → r ≡ r'
begin_one κs a r r' e e' p p' = p ∙ sym p'

pub step_at_one : (κs : Lfts 1) (a : Args step-at.signature κs) (r r' : Res step-at.signature κs) (e e' : AtExit step-at.ended κs) → step-at-reads.Post κs a r e → step-at-reads.Post κs a r' e' → r ≡ r'
step_at_one κs a r r' e e' p p' = p ∙ sym p'

pub write_one : (κs : Lfts 2) (a : Args write.signature κs) (r r' : Res write.signature κs) (e e' : AtExit write.ended κs) → write-reads.Post κs a r e → write-reads.Post κs a r' e' → (r ≡ r') × (e.1.1.0.now ≡ e'.1.1.0.now)
write_one κs a r r' e e' p p' = (p.0 ∙ sym p'.0, p.1 ∙ sym p'.1)
