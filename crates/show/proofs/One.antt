-- One possible result: any two results that a contract allows at the same arguments are equal, and so are the outputs.
use mathlib.Core.Path.{◌≡◌, sym, ◌∙◌}
use contract.Lifetimes.{Lfts}
use denote.Triple.Entry.{Args, Res}
use denote.Triple.Clauses.{AtExit}
use Rattle.show.specs.contracts.in_room as in_room
use Rattle.show.proofs.in_room.Reads as in-room-reads
use Rattle.show.specs.contracts.text as text
use Rattle.show.proofs.text.Reads as text-reads
use Rattle.show.specs.contracts.show_in as show-in
use Rattle.show.proofs.show_in.Reads as show-in-reads
use Rattle.show.specs.contracts.show as show
use Rattle.show.proofs.show.Reads as show-reads

pub in_room_one : (κs : Lfts 2) (a : Args in_room.signature κs) (r r' : Res in_room.signature κs) (e e' : AtExit in_room.ended κs) → in-room-reads.Post κs a r e → in-room-reads.Post κs a r' e' → (r ≡ r') × (e.1.1.0.now ≡ e'.1.1.0.now)
in_room_one κs a r r' e e' p p' = (p.0 ∙ sym p'.0, p.1 ∙ sym p'.1)

pub text_one : (κs : Lfts 2) (a : Args text.signature κs) (r r' : Res text.signature κs) (e e' : AtExit text.ended κs) → text-reads.Post κs a r e → text-reads.Post κs a r' e' → (r ≡ r') × (e.1.1.0.now ≡ e'.1.1.0.now)
text_one κs a r r' e e' p p' = (p.0 ∙ sym p'.0, p.1 ∙ sym p'.1)

pub show_in_one : (κs : Lfts 2) (a : Args show-in.signature κs) (r r' : Res show-in.signature κs) (e e' : AtExit show-in.ended κs) → show-in-reads.Post κs a r e → show-in-reads.Post κs a r' e' → (r ≡ r') × (e.1.0.now ≡ e'.1.0.now)
show_in_one κs a r r' e e' p p' = (p.0 ∙ sym p'.0, p.1 ∙ sym p'.1)

pub show_one : (κs : Lfts 1) (a : Args show.signature κs) (r r' : Res show.signature κs) (e e' : AtExit show.ended κs) → show-reads.Post κs a r e → show-reads.Post κs a r' e' → (r ≡ r') × (e.1.0.now ≡ e'.1.0.now)
show_one κs a r r' e e' p p' = (p.0 ∙ sym p'.0, p.1 ∙ sym p'.1)
