-- One possible result: any two results that a contract allows at the same arguments are equal.
use mathlib.Core.Path.{◌≡◌, sym, ◌∙◌}
use contract.Lifetimes.{Lfts}
use denote.Triple.Entry.{Args, Res}
use denote.Triple.Clauses.{AtExit}
use Rattle.records.specs.contracts.keys_allowed as keys-allowed
use Rattle.records.proofs.keys_allowed.Reads as keys-allowed-reads
use Rattle.records.specs.contracts.letters_allowed as letters_allowed
use Rattle.records.proofs.letters_allowed.Reads as letters-allowed-reads
use Rattle.records.specs.contracts.places_wrong as places-wrong
use Rattle.records.proofs.places_wrong.Reads as places-wrong-reads
use Rattle.records.specs.contracts.lent_out_of_range as lent-out-of-range
use Rattle.records.proofs.lent_out_of_range.Reads as lent-out-of-range-reads
use Rattle.records.specs.contracts.numbers_of as numbers-of
use Rattle.records.proofs.numbers_of.Reads as numbers-of-reads
use Rattle.records.specs.contracts.numbers_wrong as numbers-wrong
use Rattle.records.proofs.numbers_wrong.Reads as numbers-wrong-reads
use Rattle.records.specs.contracts.out_of_range as out_of_range_law
use Rattle.records.proofs.out_of_range.Reads as out-of-range-reads

pub keys_allowed_one : (κs : Lfts 1) (a : Args keys-allowed.signature κs) (r r' : Res keys-allowed.signature κs) (e e' : AtExit keys-allowed.ended κs) → keys-allowed-reads.Post κs a r e → keys-allowed-reads.Post κs a r' e' → r ≡ r'
keys_allowed_one κs a r r' e e' p p' = p ∙ sym p'

pub letters_allowed_one : (κs : Lfts 1) (a : Args letters_allowed.signature κs) (r r' : Res letters_allowed.signature κs) (e e' : AtExit letters_allowed.ended κs) → letters-allowed-reads.Post κs a r e → letters-allowed-reads.Post κs a r' e' → r ≡ r'
letters_allowed_one κs a r r' e e' p p' = p ∙ sym p'

pub places_wrong_one : (κs : Lfts 1) (a : Args places-wrong.signature κs) (r r' : Res places-wrong.signature κs) (e e' : AtExit places-wrong.ended κs) → places-wrong-reads.Post κs a r e → places-wrong-reads.Post κs a r' e' → r ≡ r'
places_wrong_one κs a r r' e e' p p' = p ∙ sym p'

pub lent_out_of_range_one : (κs : Lfts 1) (a : Args lent-out-of-range.signature κs) (r r' : Res lent-out-of-range.signature κs) (e e' : AtExit lent-out-of-range.ended κs) → lent-out-of-range-reads.Post κs a r e → lent-out-of-range-reads.Post κs a r' e' → r ≡ r'
lent_out_of_range_one κs a r r' e e' p p' = p ∙ sym p'

pub numbers_of_one : (κs : Lfts 0) (a : Args numbers-of.signature κs) (r r' : Res numbers-of.signature κs) (e e' : AtExit numbers-of.ended κs) → numbers-of-reads.Post κs a r e → numbers-of-reads.Post κs a r' e' → r ≡ r'
numbers_of_one κs a r r' e e' p p' = p ∙ sym p'

pub numbers_wrong_one : (κs : Lfts 1) (a : Args numbers-wrong.signature κs) (r r' : Res numbers-wrong.signature κs) (e e' : AtExit numbers-wrong.ended κs) → numbers-wrong-reads.Post κs a r e → numbers-wrong-reads.Post κs a r' e' → r ≡ r'
numbers_wrong_one κs a r r' e e' p p' = p ∙ sym p'

pub out_of_range_one : (κs : Lfts 0) (a : Args out_of_range_law.signature κs) (r r' : Res out_of_range_law.signature κs) (e e' : AtExit out_of_range_law.ended κs) → out-of-range-reads.Post κs a r e → out-of-range-reads.Post κs a r' e' → r ≡ r'
out_of_range_one κs a r r' e e' p p' = p ∙ sym p'
