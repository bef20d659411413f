-- One possible result: the answer and the whole session at exit; and a refused key leaves the session as it was.
use mathlib.Core.Path.{◌≡◌, refl, sym, ap, ◌∙◌}
use seplogic.Ra.Ura.{Ura}
use base.Logic.{SProp}
use prog.Memory.{Memory}
use prog.Routine.{Routine}
use types.Logic.{Logic}
use contract.Lifetimes.{Lfts}
use contract.Monad.{Fun, fact}
use denote.Triple.Entry.{Args, Res}
use denote.Triple.Clauses.{AtExit}
use Rattle.rules.specs.AnswersInNumbers.{step_says, refusing}
use Rattle.rules.specs.WhatComesBack.{step}
use Rattle.rules.specs.declared.Word.{Word}
use Rattle.rules.specs.declared.Refusal.{Refusal}
use Rattle.rules.proofs.Refused.{refused_step}
use Rattle.session.specs.Sessions.{session_of}
use Rattle.session.specs.contracts.Session.type_key as type-key

-- what the `ensures` states, as a plain fact, and that it is what the contract states in every model
abbrev pub KeyPost : (κs : Lfts 1) → Args type-key.signature κs → Res type-key.signature κs → AtExit type-key.ended κs → Type 0
KeyPost κs a r e = (r ≡ (step a.0.now.word a.1.0).answer) × (e.0.now ≡ session_of (step a.0.now.word a.1.0))

pub type_key_says : {M : Type 1} {𝓤 : Ura M} (𝓛 : Logic 𝓤) (mem : Memory → SProp 𝓤) (run : Routine → Fun 𝓤) (κs : Lfts 1) (a : Args type-key.signature κs) (r : Res type-key.signature κs) (e : AtExit type-key.ended κs)
    → (type-key.clauses 𝓛 mem run κs a).ensures tt r e ≡ fact 𝓤 (KeyPost κs a r e)
type_key_says 𝓛 mem run κs a r e = refl

pub type_key_one : (κs : Lfts 1) (a : Args type-key.signature κs) (r r' : Res type-key.signature κs) (e e' : AtExit type-key.ended κs) → KeyPost κs a r e → KeyPost κs a r' e' → (r ≡ r') × (e.0.now ≡ e'.0.now)
type_key_one κs a r r' e e' p p' = (p.0 ∙ sym p'.0, p.1 ∙ sym p'.1)

-- a refused key: the session at exit is the session at entry
pub refused_unchanged : (κs : Lfts 1) (a : Args type-key.signature κs) (r : Res type-key.signature κs) (e : AtExit type-key.ended κs) (x : Refusal) → KeyPost κs a r e → step_says r ≡ refusing x → e.0.now ≡ a.0.now
refused_unchanged κs a r e x p h =
    p.1 ∙ ap (λ (w : Word). record { word = w }) (refused_step a.0.now.word a.1.0 x (ap step_says (sym p.0) ∙ h))
