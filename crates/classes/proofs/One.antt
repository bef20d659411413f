-- Each contract of a public function leaves one result.
use mathlib.Core.Path.{◌≡◌, sym, ◌∙◌}
use contract.Lifetimes.{Lfts}
use denote.Triple.Entry.{Args, Res}
use denote.Triple.Clauses.{AtExit}
use Rattle.classes.specs.contracts.is_vowel as is-vowel
use Rattle.classes.proofs.is_vowel.Reads as is-vowel-reads
use Rattle.classes.specs.contracts.is_initial as is_initial
use Rattle.classes.proofs.is_initial.Reads as is-initial-reads
use Rattle.classes.specs.contracts.is_final as is-final
use Rattle.classes.proofs.is_final.Reads as is-final-reads
use Rattle.classes.specs.contracts.is_stop as is_stop
use Rattle.classes.proofs.is_stop.Reads as is-stop-reads

pub is_vowel_one : (κs : Lfts 0) (a : Args is-vowel.signature κs) (r r' : Res is-vowel.signature κs) (e e' : AtExit is-vowel.ended κs)
    → is-vowel-reads.Post κs a r e → is-vowel-reads.Post κs a r' e' → r ≡ r'
is_vowel_one κs a r r' e e' p p' = p ∙ sym p'

pub is_initial_one : (κs : Lfts 0) (a : Args is_initial.signature κs) (r r' : Res is_initial.signature κs) (e e' : AtExit is_initial.ended κs)
    → is-initial-reads.Post κs a r e → is-initial-reads.Post κs a r' e' → r ≡ r'
is_initial_one κs a r r' e e' p p' = p ∙ sym p'

pub is_final_one : (κs : Lfts 0) (a : Args is-final.signature κs) (r r' : Res is-final.signature κs) (e e' : AtExit is-final.ended κs)
    → is-final-reads.Post κs a r e → is-final-reads.Post κs a r' e' → r ≡ r'
is_final_one κs a r r' e e' p p' = p ∙ sym p'

pub is_stop_one : (κs : Lfts 0) (a : Args is_stop.signature κs) (r r' : Res is_stop.signature κs) (e e' : AtExit is_stop.ended κs)
    → is-stop-reads.Post κs a r e → is-stop-reads.Post κs a r' e' → r ≡ r'
is_stop_one κs a r r' e e' p p' = p ∙ sym p'
