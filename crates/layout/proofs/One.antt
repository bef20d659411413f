-- One possible result: any two results that a contract allows at the same arguments are equal, and so are the buffers.
use mathlib.Core.Path.{◌≡◌, sym, ◌∙◌}
use contract.Lifetimes.{Lfts}
use denote.Triple.Entry.{Args, Res}
use denote.Triple.Clauses.{AtExit}
use Rattle.layout.specs.contracts.letters_of as letters-of
use Rattle.layout.proofs.letters_of.Reads as letters-of-reads
use Rattle.layout.specs.contracts.put_letters as put-letters
use Rattle.layout.proofs.put_letters.Reads as put-letters-reads
use Rattle.layout.specs.contracts.read as read
use Rattle.layout.proofs.read.Reads as read-reads
use Rattle.layout.specs.contracts.write as write
use Rattle.layout.proofs.write.Reads as write-reads

pub read_one : (κs : Lfts 1) (a : Args read.signature κs) (r r' : Res read.signature κs) (e e' : AtExit read.ended κs) → read-reads.Post κs a r e → read-reads.Post κs a r' e' → r ≡ r'
read_one κs a r r' e e' p p' = p ∙ sym p'

pub write_one : (κs : Lfts 1) (a : Args write.signature κs) (r r' : Res write.signature κs) (e e' : AtExit write.ended κs) → write-reads.Post κs a r e → write-reads.Post κs a r' e' → (r ≡ r') × (e.1.0.now ≡ e'.1.0.now)
write_one κs a r r' e e' p p' = (p.0 ∙ sym p'.0, p.1 ∙ sym p'.1)

pub letters_of_one : (κs : Lfts 1) (a : Args letters-of.signature κs) (r r' : Res letters-of.signature κs) (e e' : AtExit letters-of.ended κs) → letters-of-reads.Post κs a r e → letters-of-reads.Post κs a r' e' → r ≡ r'
letters_of_one κs a r r' e e' p p' = p ∙ sym p'

pub put_letters_one : (κs : Lfts 2) (a : Args put-letters.signature κs) (r r' : Res put-letters.signature κs) (e e' : AtExit put-letters.ended κs) → put-letters-reads.Post κs a r e → put-letters-reads.Post κs a r' e' → e.1.0.now ≡ e'.1.0.now
put_letters_one κs a r r' e e' p p' = p ∙ sym p'
