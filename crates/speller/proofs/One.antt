-- One possible result: any two results that the contract allows at the same arguments are equal, and so are the outputs.
use mathlib.Core.Path.{◌≡◌, sym, ◌∙◌}
use contract.Lifetimes.{Lfts}
use denote.Triple.Entry.{Args, Res}
use denote.Triple.Clauses.{AtExit}
use Rattle.speller.specs.contracts.spell as spell
use Rattle.speller.proofs.spell.Reads as spell-reads

pub spell_one : (κs : Lfts 2) (a : Args spell.signature κs) (r r' : Res spell.signature κs) (e e' : AtExit spell.ended κs) → spell-reads.Post κs a r e → spell-reads.Post κs a r' e' → (r ≡ r') × (e.1.1.0.now ≡ e'.1.1.0.now)
spell_one κs a r r' e e' p p' = (p.0 ∙ sym p'.0, p.1 ∙ sym p'.1)
