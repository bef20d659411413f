-- Each contract of a public function leaves one result.
use mathlib.Core.Path.{◌≡◌, sym, ◌∙◌}
use contract.Lifetimes.{Lfts}
use denote.Triple.Entry.{Args, Res}
use denote.Triple.Clauses.{AtExit}
use Rattle.letters.specs.contracts.is_plain as is_plain
use Rattle.letters.proofs.is_plain.Reads as is-plain-reads
use Rattle.letters.specs.contracts.is_letter as is_letter
use Rattle.letters.proofs.is_letter.Reads as is-letter-reads
use Rattle.letters.specs.contracts.point as point
use Rattle.letters.proofs.point.Reads as point-reads
use Rattle.letters.specs.contracts.read as read
use Rattle.letters.proofs.read.Reads as read-reads

pub is_plain_one : (κs : Lfts 0) (a : Args is_plain.signature κs) (r r' : Res is_plain.signature κs) (e e' : AtExit is_plain.ended κs)
    → is-plain-reads.Post κs a r e → is-plain-reads.Post κs a r' e' → r ≡ r'
is_plain_one κs a r r' e e' p p' = p ∙ sym p'

pub is_letter_one : (κs : Lfts 0) (a : Args is_letter.signature κs) (r r' : Res is_letter.signature κs) (e e' : AtExit is_letter.ended κs)
    → is-letter-reads.Post κs a r e → is-letter-reads.Post κs a r' e' → r ≡ r'
is_letter_one κs a r r' e e' p p' = p ∙ sym p'

pub point_one : (κs : Lfts 0) (a : Args point.signature κs) (r r' : Res point.signature κs) (e e' : AtExit point.ended κs)
    → point-reads.Post κs a r e → point-reads.Post κs a r' e' → r ≡ r'
point_one κs a r r' e e' p p' = p ∙ sym p'

pub read_one : (κs : Lfts 1) (a : Args read.signature κs) (r r' : Res read.signature κs) (e e' : AtExit read.ended κs)
    → read-reads.Post κs a r e → read-reads.Post κs a r' e' → r ≡ r'
read_one κs a r r' e e' p p' = p ∙ sym p'
