-- One possible result: any two results that a contract allows at the same arguments are equal.
use mathlib.Core.Path.{◌≡◌, sym, ◌∙◌}
use contract.Lifetimes.{Lfts}
use denote.Triple.Entry.{Args, Res}
use denote.Triple.Clauses.{AtExit}
use Rattle.targets.specs.contracts.last_wanted as last-wanted
use Rattle.targets.proofs.last_wanted.Reads as last-wanted-reads
use Rattle.targets.specs.contracts.last_own as last-own
use Rattle.targets.proofs.last_own.Reads as last-own-reads
use Rattle.targets.specs.contracts.pair as pair
use Rattle.targets.proofs.pair.Reads as pair-reads
use Rattle.targets.specs.contracts.single as single
use Rattle.targets.proofs.single.Reads as single-Reads
use Rattle.targets.specs.contracts.horns_o_alone as horns-o-alone
use Rattle.targets.proofs.horns_o_alone.Reads as horns-o-alone-reads
use Rattle.targets.specs.contracts.awaits_second_horn as awaits-second-horn
use Rattle.targets.proofs.awaits_second_horn.Reads as awaits-second-horn-reads

pub last_wanted_one : (κs : Lfts 1) (a : Args last-wanted.signature κs) (r r' : Res last-wanted.signature κs) (e e' : AtExit last-wanted.ended κs) → last-wanted-reads.Post κs a r e → last-wanted-reads.Post κs a r' e' → r ≡ r'
last_wanted_one κs a r r' e e' p p' = p ∙ sym p'

pub last_own_one : (κs : Lfts 1) (a : Args last-own.signature κs) (r r' : Res last-own.signature κs) (e e' : AtExit last-own.ended κs) → last-own-reads.Post κs a r e → last-own-reads.Post κs a r' e' → r ≡ r'
last_own_one κs a r r' e e' p p' = p ∙ sym p'

pub pair_one : (κs : Lfts 1) (a : Args pair.signature κs) (r r' : Res pair.signature κs) (e e' : AtExit pair.ended κs) → pair-reads.Post κs a r e → pair-reads.Post κs a r' e' → r ≡ r'
pair_one κs a r r' e e' p p' = p ∙ sym p'

pub single_one : (κs : Lfts 1) (a : Args single.signature κs) (r r' : Res single.signature κs) (e e' : AtExit single.ended κs) → single-Reads.Post κs a r e → single-Reads.Post κs a r' e' → r ≡ r'
single_one κs a r r' e e' p p' = p ∙ sym p'

pub horns_o_alone_one : (κs : Lfts 1) (a : Args horns-o-alone.signature κs) (r r' : Res horns-o-alone.signature κs) (e e' : AtExit horns-o-alone.ended κs) → horns-o-alone-reads.Post κs a r e → horns-o-alone-reads.Post κs a r' e' → r ≡ r'
horns_o_alone_one κs a r r' e e' p p' = p ∙ sym p'

pub awaits_second_horn_one : (κs : Lfts 1) (a : Args awaits-second-horn.signature κs) (r r' : Res awaits-second-horn.signature κs) (e e' : AtExit awaits-second-horn.ended κs) → awaits-second-horn-reads.Post κs a r e → awaits-second-horn-reads.Post κs a r' e' → r ≡ r'
awaits_second_horn_one κs a r r' e e' p p' = p ∙ sym p'
