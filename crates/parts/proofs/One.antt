-- Each public contract leaves one possible result; nothing is lent to be written. Assumes nothing.
use mathlib.Core.Path.{◌≡◌, sym, ◌∙◌}
use contract.Lifetimes.{Lfts}
use denote.Triple.Entry.{Args, Res}
use denote.Triple.Clauses.{AtExit}
use Rattle.parts.specs.contracts.apart as apart
use Rattle.parts.proofs.apart.Reads as apart-reads
use Rattle.parts.specs.contracts.tone_place as tone_place
use Rattle.parts.proofs.tone_place.Reads as tone-place-reads

pub apart_one : (κs : Lfts 1) (a : Args apart.signature κs) (r r' : Res apart.signature κs) (e e' : AtExit apart.ended κs) → apart-reads.Post κs a r e → apart-reads.Post κs a r' e' → r ≡ r'
apart_one κs a r r' e e' p p' = p ∙ sym p'

pub tone_place_one : (κs : Lfts 1) (a : Args tone_place.signature κs) (r r' : Res tone_place.signature κs) (e e' : AtExit tone_place.ended κs) → tone-place-reads.Post κs a r e → tone-place-reads.Post κs a r' e' → r ≡ r'
tone_place_one κs a r r' e e' p p' = p ∙ sym p'
