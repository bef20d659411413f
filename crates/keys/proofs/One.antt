-- Each contract of a public function leaves one result.
use mathlib.Core.Path.{◌≡◌, sym, ◌∙◌}
use contract.Lifetimes.{Lfts}
use denote.Triple.Entry.{Args, Res}
use denote.Triple.Clauses.{AtExit}
use Rattle.keys.specs.contracts.is_mode as is_mode_law
use Rattle.keys.proofs.is_mode.Reads as is-mode-reads
use Rattle.keys.specs.contracts.is_small as is-small
use Rattle.keys.proofs.is_small.Reads as is-small-reads
use Rattle.keys.specs.contracts.is_digit as is_digit
use Rattle.keys.proofs.is_digit.Reads as is-digit-reads
use Rattle.keys.specs.contracts.is_key as is_key
use Rattle.keys.proofs.is_key.Reads as is-key-reads
use Rattle.keys.specs.contracts.letter_of_key as letter_of_key_law
use Rattle.keys.proofs.letter_of_key.Reads as letter-of-key-reads
use Rattle.keys.specs.contracts.role as role
use Rattle.keys.proofs.role.Reads as role-reads

pub is_mode_one : (κs : Lfts 0) (a : Args is_mode_law.signature κs) (r r' : Res is_mode_law.signature κs) (e e' : AtExit is_mode_law.ended κs)
    → is-mode-reads.Post κs a r e → is-mode-reads.Post κs a r' e' → r ≡ r'
is_mode_one κs a r r' e e' p p' = p ∙ sym p'

pub is_small_one : (κs : Lfts 0) (a : Args is-small.signature κs) (r r' : Res is-small.signature κs) (e e' : AtExit is-small.ended κs)
    → is-small-reads.Post κs a r e → is-small-reads.Post κs a r' e' → r ≡ r'
is_small_one κs a r r' e e' p p' = p ∙ sym p'

pub is_digit_one : (κs : Lfts 0) (a : Args is_digit.signature κs) (r r' : Res is_digit.signature κs) (e e' : AtExit is_digit.ended κs)
    → is-digit-reads.Post κs a r e → is-digit-reads.Post κs a r' e' → r ≡ r'
is_digit_one κs a r r' e e' p p' = p ∙ sym p'

pub is_key_one : (κs : Lfts 0) (a : Args is_key.signature κs) (r r' : Res is_key.signature κs) (e e' : AtExit is_key.ended κs)
    → is-key-reads.Post κs a r e → is-key-reads.Post κs a r' e' → r ≡ r'
is_key_one κs a r r' e e' p p' = p ∙ sym p'

pub letter_of_key_one : (κs : Lfts 0) (a : Args letter_of_key_law.signature κs) (r r' : Res letter_of_key_law.signature κs) (e e' : AtExit letter_of_key_law.ended κs)
    → letter-of-key-reads.Post κs a r e → letter-of-key-reads.Post κs a r' e' → r ≡ r'
letter_of_key_one κs a r r' e e' p p' = p ∙ sym p'

pub role_one : (κs : Lfts 0) (a : Args role.signature κs) (r r' : Res role.signature κs) (e e' : AtExit role.ended κs)
    → role-reads.Post κs a r e → role-reads.Post κs a r' e' → r ≡ r'
role_one κs a r r' e e' p p' = p ∙ sym p'
