-- One possible result: any two results that the contract allows at the same arguments are equal, and so are the outputs.
use mathlib.Core.Path.{◌≡◌, sym, ◌∙◌}
use contract.Lifetimes.{Lfts}
use denote.Triple.Entry.{Args, Res}
use denote.Triple.Clauses.{AtExit}
use Rattle.output.specs.contracts.write as write
use Rattle.output.proofs.write.Reads as write-reads

pub write_one : (κs : Lfts 2) (a : Args write.signature κs) (r r' : Res write.signature κs) (e e' : AtExit write.ended κs) → write-reads.Post κs a r e → write-reads.Post κs a r' e' → (r ≡ r') × (e.1.0.now ≡ e'.1.0.now)
write_one κs a r r' e e' p p' = (p.0 ∙ sym p'.0, p.1 ∙ sym p'.1)
