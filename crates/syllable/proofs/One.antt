-- Each public contract leaves one possible result; nothing is lent to be written. Assumes nothing.
use mathlib.Core.Path.{◌≡◌, sym, ◌∙◌}
use contract.Lifetimes.{Lfts}
use denote.Triple.Entry.{Args, Res}
use denote.Triple.Clauses.{AtExit}
use Rattle.syllable.specs.contracts.verdict as verdict
use Rattle.syllable.proofs.verdict.Reads as verdict-reads
use Rattle.syllable.specs.contracts.admitted as admitted
use Rattle.syllable.proofs.admitted.Reads as admitted-reads
use Rattle.syllable.specs.contracts.takes_tone as takes-tone
use Rattle.syllable.proofs.takes_tone.Reads as takes-tone-reads

pub verdict_one : (κs : Lfts 1) (a : Args verdict.signature κs) (r r' : Res verdict.signature κs) (e e' : AtExit verdict.ended κs) → verdict-reads.Post κs a r e → verdict-reads.Post κs a r' e' → r ≡ r'
verdict_one κs a r r' e e' p p' = p ∙ sym p'

pub admitted_one : (κs : Lfts 1) (a : Args admitted.signature κs) (r r' : Res admitted.signature κs) (e e' : AtExit admitted.ended κs) → admitted-reads.Post κs a r e → admitted-reads.Post κs a r' e' → r ≡ r'
admitted_one κs a r r' e e' p p' = p ∙ sym p'

pub takes_tone_one : (κs : Lfts 1) (a : Args takes-tone.signature κs) (r r' : Res takes-tone.signature κs) (e e' : AtExit takes-tone.ended κs) → takes-tone-reads.Post κs a r e → takes-tone-reads.Post κs a r' e' → r ≡ r'
takes_tone_one κs a r r' e e' p p' = p ∙ sym p'
