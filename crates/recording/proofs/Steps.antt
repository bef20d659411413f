-- One step by what it meets, and the mode in front of all of them.
use Rattle.std.specs.Prelude.{Option, Some, None, Result, Ok, Err, ⊤}
use mathlib.Core.Path.{◌≡◌, refl, sym, ap, ◌∙◌}
use mathlib.Core.Bool.{Bool, false}
use mathlib.Core.List.{List, [], ◌∷◌}
use Prim.Native.Nat.{ℕ, zero, suc, ◌+◌, ◌≤◌, ◌<◌}
use native.Mathlib.Omega.{arith}
use lib.ListN.{length, drop, drop_of_length-le, length-drop}
use lib.Seq.{drop-drop}
use borrow.Author.Tests.{ne_eqb}
use Rattle.rules.specs.Refusals.{wrong_mode}
use Rattle.rules.specs.declared.Refusal.{Refusal}
use Rattle.groups.specs.Numbers.{number}
use Rattle.groups.specs.declared.Number.{Number}
use Rattle.groups.proofs.BothWays.{number_within}
use Rattle.recording.specs.Recordings.{press, none_yet, onward, refused_for, checked, staying, refused_step, press_if, key_read, time_read, step_from, step_at, mode_read, mode_if, begin}
use Rattle.recording.specs.declared.Progress.{Progress}

-- the mode
module _ (s : List ℕ) where
  pub without_mode : None ≡ (number s) → Err (refused_for 10 0) ≡ begin s
  unfolding begin
  without_mode e = sym (ap mode_read (sym e))

  module _ (n : Number) (e : Some n ≡ (number s)) where
    pub wrong_mode_law : 1 < n.value → Err (refused_for 1 0) ≡ begin s
    unfolding begin
    wrong_mode_law h = sym (ap mode_read (sym e) ∙ simp (ne_eqb n.value 0 (λ q. omega arith), ne_eqb n.value 1 (λ q. omega arith)))

    pub in_mode : n.value ≤ 1 → Ok (record { at = n.groups; progress = none_yet n.value }) ≡ begin s
    unfolding begin
    in_mode h = sym (ap mode_read (sym e) ∙ ap (λ (b : Bool). mode_if b n) (small n.value h))
      where
        small : (m : ℕ) → m ≤ 1 → wrong_mode m ≡ false
        small zero h = refl
        small (suc zero) h = refl
        small (suc (suc m)) h = absurd (omega arith)

-- a number stands within the bytes
pub ends_within : (s : List ℕ) (at : ℕ) (n : Number) → Some n ≡ (number (drop at s)) → at + n.groups ≤ length s
ends_within s at n e = omega (arith, number_within (drop at s) n (sym e), length-drop at s)

-- a step, from a place within the recording or past it
module _ (s : List ℕ) (at : ℕ) (p : Progress) where
  pub at_end : length s ≤ at → staying (Ok None) at p ≡ step_at s at p
  unfolding step_at
  at_end h = sym (ap (λ (bs : List ℕ). step_from bs at p) (drop_of_length-le s h))

  some_there : (bs : List ℕ) → 0 < length bs → step_from bs at p ≡ time_read (number bs) bs at p
  some_there [] h = absurd (omega arith)
  some_there (b ∷ bs) h = refl

  within : at < length s → step_at s at p ≡ time_read (number (drop at s)) (drop at s) at p
  unfolding step_at
  within h = some_there (drop at s) (omega (arith, length-drop at s))

  pub no_time : at < length s → None ≡ (number (drop at s)) → refused_step 10 at at p ≡ step_at s at p
  no_time h e = sym (within h ∙ ap (λ (o : Option Number). time_read o (drop at s) at p) (sym e))

  module _ (t : Number) (h : at < length s) (e : Some t ≡ (number (drop at s))) where
    time_there : step_at s at p ≡ key_read t (number (drop (at + t.groups) s)) at p
    time_there =
        within h ∙ ap (λ (o : Option Number). time_read o (drop at s) at p) (sym e) ∙
        ap (λ (bs : List ℕ). key_read t (number bs) at p) (drop-drop t.groups at s)

    pub no_key : None ≡ (number (drop (at + t.groups) s)) → refused_step 10 (at + t.groups) at p ≡ step_at s at p
    no_key f = sym (time_there ∙ ap (λ (o : Option Number). key_read t o at p) (sym f))

    module _ (k : Number) (f : Some k ≡ (number (drop (at + t.groups) s))) where
      both_there : step_at s at p ≡ press_if (checked p (press t.value k.value) (at + t.groups) at) (press t.value k.value) (at + t.groups + k.groups) at p
      both_there = time_there ∙ ap (λ (o : Option Number). key_read t o at p) (sym f)

      pub faulty_press : (r : Refusal) → checked p (press t.value k.value) (at + t.groups) at ≡ Err r → staying (Err r) at p ≡ step_at s at p
      faulty_press r c = sym (both_there ∙ ap (λ (x : Result ⊤ Refusal). press_if x (press t.value k.value) (at + t.groups + k.groups) at p) c)

      pub fine_press : checked p (press t.value k.value) (at + t.groups) at ≡ Ok tt
          → record { press = Ok (Some (press t.value k.value)); at = at + t.groups + k.groups; progress = onward p (press t.value k.value) } ≡ step_at s at p
      fine_press c = sym (both_there ∙ ap (λ (x : Result ⊤ Refusal). press_if x (press t.value k.value) (at + t.groups + k.groups) at p) c)
