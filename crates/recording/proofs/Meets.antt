-- What a step meets, by cases: the end, a refusal that leaves place and progress, or a press that is fine, of two bytes or more, which the bytes in front of the next place spell.
use Rattle.std.specs.Prelude.{Option, Some, None, Result, Ok, Err, ⊤}
use mathlib.Core.Path.{◌≡◌, refl, sym, ap, subst, ◌∙◌}
use mathlib.Core.Bool.{Bool, true, false}
use mathlib.Core.List.{List, ◌++◌, append_assoc}
use Prim.Native.Nat.{ℕ, ◌+◌, ◌≤◌, ◌<◌}
use native.Mathlib.Omega.{arith}
use borrow.Author.Tests.{ltb-true, ltb-false}
use lib.Dec.{ltb}
use lib.ListN.{length, drop}
use lib.Seq.{drop-drop, get_or-drop}
use Rattle.rules.specs.declared.Refusal.{Refusal}
use Rattle.groups.specs.Numbers.{number, written, AllBytes}
use Rattle.groups.specs.declared.Number.{Number}
use Rattle.groups.proofs.BothWays.{written_back, number_within}
use Rattle.recording.specs.Recordings.{press, onward, refused_for, checked, staying, step_at}
use Rattle.recording.specs.Drills.{press_bytes}
use Rattle.recording.specs.declared.Progress.{Progress}
use Rattle.recording.specs.declared.KeyPress.{KeyPress}
use Rattle.recording.specs.declared.Stepped.{Stepped}
use Rattle.recording.proofs.Presses.{fine_anywhere}
use Rattle.recording.proofs.Steps.{at_end, ends_within, no_time, no_key, faulty_press, fine_press}

pub data Meets (s : List ℕ) (at : ℕ) (p : Progress) : Stepped → Type 0 where
  the_end : length s ≤ at → Meets s at p (staying (Ok None) at p)
  a_refusal : (r : Refusal) → at < length s → Meets s at p (staying (Err r) at p)
  a_press : (x : KeyPress) (next : ℕ) → checked p x 0 0 ≡ (Ok tt) → at + 2 ≤ next → next ≤ length s → (AllBytes s → drop at s ≡ press_bytes x ++ drop next s)
      → Meets s at p (record { press = Ok (Some x); at = next; progress = onward p x })

-- bytes behind a place are bytes
pub bytes_behind : (k : ℕ) (s : List ℕ) → AllBytes s → AllBytes (drop k s)
bytes_behind k s h i = rw get_or-drop (h (k + i))

module _ (s : List ℕ) (at : ℕ) (p : Progress) where
  -- the bytes of a time and a key number, one behind the other
  both_back : (t k : Number) → number (drop at s) ≡ Some t → number (drop (at + t.groups) s) ≡ Some k → AllBytes s → drop at s ≡ press_bytes (press t.value k.value) ++ drop (at + t.groups + k.groups) s
  both_back t k e f h =
      written_back (drop at s) t e (bytes_behind at s h) ∙
      ap (λ (bs : List ℕ). written t.value ++ bs)
      (drop-drop t.groups at s ∙ written_back (drop (at + t.groups) s) k f (bytes_behind (at + t.groups) s h) ∙ ap (λ (bs : List ℕ). written k.value ++ bs) (drop-drop k.groups (at + t.groups) s)) ∙
      sym (append_assoc (written t.value) (written k.value) (drop (at + t.groups + k.groups) s))

  module _ (inside : at < length s) where
    module _ (t k : Number) (e : number (drop at s) ≡ Some t) (f : number (drop (at + t.groups) s) ≡ Some k) where
      checked_there : (c : Result ⊤ Refusal) → checked p (press t.value k.value) (at + t.groups) at ≡ c → Meets s at p (step_at s at p)
      checked_there (Err r) c = subst (Meets s at p) (faulty_press s at p t inside (sym e) k (sym f) r c) (a_refusal r inside)
      checked_there (Ok tt) c =
          let one = number_within (drop at s) t e in
          let two = number_within (drop (at + t.groups) s) k f in
          let end = ends_within s (at + t.groups) k (sym f) in
          subst (Meets s at p) (fine_press s at p t inside (sym e) k (sym f) c)
          (a_press (press t.value k.value) (at + t.groups + k.groups) (fine_anywhere p (press t.value k.value) (at + t.groups) at 0 0 c) (omega (arith, one, two)) end (both_back t k e f))

    key_there : (t : Number) → number (drop at s) ≡ Some t → (o : Option Number) → number (drop (at + t.groups) s) ≡ o → Meets s at p (step_at s at p)
    key_there t e None f = subst (Meets s at p) (no_key s at p t inside (sym e) (sym f)) (a_refusal (refused_for 10 (at + t.groups)) inside)
    key_there t e (Some k) f = checked_there t k e f (checked p (press t.value k.value) (at + t.groups) at) refl

    time_there : (o : Option Number) → number (drop at s) ≡ o → Meets s at p (step_at s at p)
    time_there None e = subst (Meets s at p) (no_time s at p inside (sym e)) (a_refusal (refused_for 10 at) inside)
    time_there (Some t) e = key_there t e (number (drop (at + t.groups) s)) refl

  by_place : (b : Bool) → ltb at (length s) ≡ b → Meets s at p (step_at s at p)
  by_place false e = let h = ltb-false at (length s) e in subst (Meets s at p) (at_end s at p h) (the_end h)
  by_place true e = time_there (ltb-true at (length s) e) (number (drop at s)) refl

  pub meets : Meets s at p (step_at s at p)
  meets = by_place (ltb at (length s)) refl
