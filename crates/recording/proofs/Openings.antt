-- Behind the mode of a recording: the mode is one that there is, nothing is pressed yet, and the place is within the recording.
use Rattle.std.specs.Prelude.{Option, Some, None, Ok, Err, Result}
use mathlib.Core.Path.{◌≡◌, refl, sym, subst}
use mathlib.Core.Bool.{Bool, true, false}
use mathlib.Core.List.{List}
use Prim.Native.Nat.{ℕ, ◌≤◌}
use native.Mathlib.Omega.{arith}
use borrow.Author.Tests.{not-false}
use lib.Dec.{T}
use lib.ListN.{length}
use Rattle.rules.specs.Refusals.{is_mode, wrong_mode}
use Rattle.rules.specs.declared.Refusal.{Refusal}
use Rattle.groups.specs.Numbers.{number}
use Rattle.groups.specs.declared.Number.{Number}
use Rattle.groups.proofs.BothWays.{number_within}
use Rattle.recording.specs.Recordings.{none_yet, mode_if, mode_read, begin}
use Rattle.recording.specs.declared.Begun.{Begun}

pub record Opened (s : List ℕ) (b : Begun) : Type 0 where
  pub mode : T (is_mode b.progress.mode)
  pub none_yet_law : b.progress ≡ none_yet b.progress.mode
  pub inside : b.at ≤ length s

no_mode : {A : Type 0} {r : Refusal} {b : Begun} → ◌≡◌ {A = Result Begun Refusal} (Err r) (Ok b) → A
no_mode e = let z : ◌≡◌ {A = ℕ} 0 1 = cc in absurd (omega arith)

same_begun : {a b : Begun} → ◌≡◌ {A = Result Begun Refusal} (Ok a) (Ok b) → a ≡ b
same_begun e = cc

module _ (s : List ℕ) (b : Begun) where
  by_mode : (n : Number) → number s ≡ Some n → (w : Bool) → wrong_mode n.value ≡ w → mode_if w n ≡ Ok b → Opened s b
  by_mode n e true f g = no_mode g
  by_mode n e false f g =
      let known : is_mode n.value ≡ true = not-false (is_mode n.value) f in
      subst (Opened s) (same_begun g) (record { mode = subst T (sym known) tt; none_yet_law = refl; inside = (number_within s n e).1 })

  by_number : (o : Option Number) → number s ≡ o → mode_read o ≡ Ok b → Opened s b
  by_number None e f = no_mode f
  by_number (Some n) e f = by_mode n e (wrong_mode n.value) refl f

  pub opened : begin s ≡ Ok b → Opened s b
  unfolding begin
  opened e = by_number (number s) refl e
