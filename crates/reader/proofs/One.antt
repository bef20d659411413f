-- One possible result of each public function: a reader as a whole, an answer, a step, and after `next_in` also the reader that was lent.
use mathlib.Core.Path.{◌≡◌, refl, sym, ◌∙◌}
use seplogic.Ra.Ura.{Ura}
use base.Logic.{SProp}
use prog.Memory.{Memory}
use prog.Routine.{Routine}
use types.Logic.{Logic}
use contract.Lifetimes.{Lfts}
use contract.Monad.{Fun, fact}
use denote.Triple.Entry.{Args, Res}
use denote.Triple.Clauses.{AtExit}
use Rattle.recording.specs.Recordings.{begin as begin_of}
use Rattle.reader.specs.Standing.{step_from, place_after}
use Rattle.reader.specs.declared.Reader.{Reader}
use Rattle.reader.specs.contracts.Reader.new as new
use Rattle.reader.specs.contracts.Reader.begin as begin
use Rattle.reader.specs.contracts.Reader.moved as moved
use Rattle.reader.specs.contracts.Reader.next as next
use Rattle.reader.specs.contracts.Reader.next_in as next-in

-- two readers with one recording and one place are one reader
same : (d d' : Reader) → d.recording ≡ d'.recording → d.at ≡ d'.at → d ≡ d'
same d d' p n i = record { recording = p i; at = n i }

-- of each function: its `ensures` as a plain fact; that in every model the contract states that fact; and that two results of which it holds are equal

abbrev pub NewPost : (κs : Lfts 1) → Args new.signature κs → Res new.signature κs → AtExit new.ended κs → Type 0
NewPost κs a r e = (r.recording ≡ a.0) × (r.at ≡ 0)

pub new_says : {M : Type 1} {𝓤 : Ura M} (𝓛 : Logic 𝓤) (mem : Memory → SProp 𝓤) (run : Routine → Fun 𝓤) (κs : Lfts 1) (a : Args new.signature κs) (r : Res new.signature κs) (e : AtExit new.ended κs)
    → (new.clauses 𝓛 mem run κs a).ensures tt r e ≡ fact 𝓤 (NewPost κs a r e)
new_says 𝓛 mem run κs a r e = refl

pub new_one : (κs : Lfts 1) (a : Args new.signature κs) (r r' : Res new.signature κs) (e e' : AtExit new.ended κs) → NewPost κs a r e → NewPost κs a r' e' → r ≡ r'
new_one κs a r r' e e' p p' = same r r' (p.0 ∙ sym p'.0) (p.1 ∙ sym p'.1)

abbrev pub BeginPost : (κs : Lfts 1) → Args begin.signature κs → Res begin.signature κs → AtExit begin.ended κs → Type 0
BeginPost κs a r e = r ≡ begin_of a.0.recording.now

pub begin_says : {M : Type 1} {𝓤 : Ura M} (𝓛 : Logic 𝓤) (mem : Memory → SProp 𝓤) (run : Routine → Fun 𝓤) (κs : Lfts 1) (a : Args begin.signature κs) (r : Res begin.signature κs) (e : AtExit begin.ended κs)
    → (begin.clauses 𝓛 mem run κs a).ensures tt r e ≡ fact 𝓤 (BeginPost κs a r e)
begin_says 𝓛 mem run κs a r e = refl

pub begin_one : (κs : Lfts 1) (a : Args begin.signature κs) (r r' : Res begin.signature κs) (e e' : AtExit begin.ended κs) → BeginPost κs a r e → BeginPost κs a r' e' → r ≡ r'
begin_one κs a r r' e e' p p' = p ∙ sym p'

abbrev pub MovedPost : (κs : Lfts 1) → Args moved.signature κs → Res moved.signature κs → AtExit moved.ended κs → Type 0
MovedPost κs a r e = (r.recording ≡ a.0.recording) × (r.at ≡ a.1.0)

pub moved_says : {M : Type 1} {𝓤 : Ura M} (𝓛 : Logic 𝓤) (mem : Memory → SProp 𝓤) (run : Routine → Fun 𝓤) (κs : Lfts 1) (a : Args moved.signature κs) (r : Res moved.signature κs) (e : AtExit moved.ended κs)
    → (moved.clauses 𝓛 mem run κs a).ensures tt r e ≡ fact 𝓤 (MovedPost κs a r e)
moved_says 𝓛 mem run κs a r e = refl

pub moved_one : (κs : Lfts 1) (a : Args moved.signature κs) (r r' : Res moved.signature κs) (e e' : AtExit moved.ended κs) → MovedPost κs a r e → MovedPost κs a r' e' → r ≡ r'
moved_one κs a r r' e e' p p' = same r r' (p.0 ∙ sym p'.0) (p.1 ∙ sym p'.1)

abbrev pub NextPost : (κs : Lfts 1) → Args next.signature κs → Res next.signature κs → AtExit next.ended κs → Type 0
NextPost κs a r e = r ≡ step_from a.0.recording.now a.0.at a.1.0

pub next_says : {M : Type 1} {𝓤 : Ura M} (𝓛 : Logic 𝓤) (mem : Memory → SProp 𝓤) (run : Routine → Fun 𝓤) (κs : Lfts 1) (a : Args next.signature κs) (r : Res next.signature κs) (e : AtExit next.ended κs)
    → (next.clauses 𝓛 mem run κs a).ensures tt r e ≡ fact 𝓤 (NextPost κs a r e)
next_says 𝓛 mem run κs a r e = refl

pub next_one : (κs : Lfts 1) (a : Args next.signature κs) (r r' : Res next.signature κs) (e e' : AtExit next.ended κs) → NextPost κs a r e → NextPost κs a r' e' → r ≡ r'
next_one κs a r r' e e' p p' = p ∙ sym p'

abbrev pub NextInPost : (κs : Lfts 2) → Args next-in.signature κs → Res next-in.signature κs → AtExit next-in.ended κs → Type 0
NextInPost κs a r e = (r ≡ step_from a.0.now.recording.now a.0.now.at a.1.0) × (e.0.now.recording ≡ a.0.now.recording) × (e.0.now.at ≡ place_after a.0.now.recording.now a.0.now.at a.1.0)

pub next_in_says : {M : Type 1} {𝓤 : Ura M} (𝓛 : Logic 𝓤) (mem : Memory → SProp 𝓤) (run : Routine → Fun 𝓤) (κs : Lfts 2) (a : Args next-in.signature κs) (r : Res next-in.signature κs) (e : AtExit next-in.ended κs)
    → (next-in.clauses 𝓛 mem run κs a).ensures tt r e ≡ fact 𝓤 (NextInPost κs a r e)
next_in_says 𝓛 mem run κs a r e = refl

pub next_in_one : (κs : Lfts 2) (a : Args next-in.signature κs) (r r' : Res next-in.signature κs) (e e' : AtExit next-in.ended κs) → NextInPost κs a r e → NextInPost κs a r' e' → (r ≡ r') × (e.0.now ≡ e'.0.now)
next_in_one κs a r r' e e' p p' = (p.0 ∙ sym p'.0, same e.0.now e'.0.now (p.1 ∙ sym p'.1) (p.2 ∙ sym p'.2))
