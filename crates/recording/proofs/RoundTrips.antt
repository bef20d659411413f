-- A drill that is written and read is the same drill; a recording that is read and written is the same bytes.
use Rattle.std.specs.Prelude.{Option, Some, None, Result, Ok, Err, ⊤}
use mathlib.Core.Path.{◌≡◌, refl, sym, ap, subst, ◌∙◌}
use mathlib.Core.Bool.{Bool, true, false, not, ◌||◌}
use mathlib.Core.List.{List, [], ◌∷◌, ◌++◌, append_assoc}
use Prim.Native.Nat.{ℕ, zero, suc, ◌+◌, ◌-◌, ◌≤◌, ◌<◌}
use native.Mathlib.Omega.{arith}
use lib.ListN.{length, drop, length-append, length-drop, drop_of_length-le}
use lib.Seq.{drop-drop, drop-append_seam}
use borrow.Author.Tests.{eqb-true, ltb-true, ltb-false}
use lib.Dec.{eqb, ltb}
use Rattle.rules.specs.declared.Refusal.{Refusal}
use Rattle.rules.specs.Refusals.{wrong_mode}
use Rattle.groups.specs.Numbers.{number, written, limit, AllBytes}
use Rattle.groups.specs.declared.Number.{Number}
use Rattle.groups.proofs.BothWays.{number_back, written_some, written_back}
use Rattle.recording.specs.Recordings.{none_yet, onward, checked, step_at, mode_if, mode_read, begin, Reading, broken, presses, before, and_then, refused_at, drill, in_mode, recorded_after, recorded}
use Rattle.recording.specs.Drills.{press_bytes, presses_bytes, drill_bytes, unless, checked_from}
use Rattle.recording.specs.declared.Progress.{Progress}
use Rattle.recording.specs.declared.KeyPress.{KeyPress}
use Rattle.recording.specs.declared.Stepped.{Stepped}
use Rattle.recording.proofs.Presses.{is_fine, is_byte, fine_anywhere}
use Rattle.recording.proofs.Steps.{fine_press}
use Rattle.recording.proofs.Meets.{Meets, the_end, a_refusal, a_press, meets}
use Rattle.recording.proofs.Readings.{rest_from, enough, at_a_step, past_the_end}
use Rattle.recording.specs.declared.Begun.{Begun}

-- all presses are fine where each is
both_fine : (c d : Result ⊤ Refusal) → unless c d ≡ (Ok tt) → (c ≡ (Ok tt)) × (d ≡ (Ok tt))
both_fine (Ok tt) d e = (refl, e)
both_fine (Err r) d e = let z : ◌≡◌ {A = ℕ} 0 1 = cc in absurd (omega arith)

-- a press that stands at a place is the step from there
module _ (s : List ℕ) (at : ℕ) (p : Progress) (x : KeyPress) (rest : List ℕ) (here : drop at s ≡ press_bytes x ++ rest) (fine : checked p x 0 0 ≡ (Ok tt)) where
  abbrev time_there : Number
  time_there = record { value = x.milliseconds; groups = length (written x.milliseconds) }

  abbrev key_there : Number
  key_there = record { value = x.key; groups = length (written x.key) }

  behind_time : drop at s ≡ written x.milliseconds ++ (written x.key ++ rest)
  behind_time = here ∙ append_assoc (written x.milliseconds) (written x.key) rest

  at_key : drop (at + length (written x.milliseconds)) s ≡ written x.key ++ rest
  at_key = sym (drop-drop (length (written x.milliseconds)) at s) ∙ ap (drop (length (written x.milliseconds))) behind_time ∙ drop-append_seam (written x.milliseconds) (written x.key ++ rest)

  pub is_inside : at + 2 ≤ length s
  is_inside =
      omega (arith, length-drop at s, ap length here, length-append (press_bytes x) rest, length-append (written x.milliseconds) (written x.key), written_some x.milliseconds, written_some x.key)

  pub step_there : step_at s at p ≡ record { press = Ok (Some x); at = at + length (press_bytes x); progress = onward p x }
  step_there =
      let f = is_fine p x 0 0 fine in
      let t = ap number behind_time ∙ number_back x.milliseconds (omega (arith, f.short)) (written x.key ++ rest) in
      let k = ap number at_key ∙ number_back x.key (omega (arith, is_byte p x.key f.allowed)) rest in
      let long : at + length (written x.milliseconds) + length (written x.key) ≡ at + length (press_bytes x) = omega (arith, length-append (written x.milliseconds) (written x.key)) in
      sym (fine_press s at p time_there (omega (arith, is_inside)) (sym t) key_there (sym k) (fine_anywhere p x 0 0 _ _ fine)) ∙
      ap (λ (n : ℕ). let u : Stepped = record { press = Ok (Some x); at = n; progress = onward p x } in u) long

  pub behind_both : drop (at + length (press_bytes x)) s ≡ rest
  behind_both = sym (drop-drop (length (press_bytes x)) at s) ∙ ap (drop (length (press_bytes x))) here ∙ drop-append_seam (press_bytes x) rest

-- what is written is read
pub presses_read : (s : List ℕ) (xs : List KeyPress) (i at : ℕ) (p : Progress) → drop at s ≡ presses_bytes xs → checked_from p i xs ≡ (Ok tt) → rest_from s at p ≡ presses xs
presses_read s [] i at p here fine = past_the_end s at p (omega (arith, length-drop at s, ap length here))
presses_read s (x ∷ xs) i at p here fine =
    let f = both_fine (checked p x i i) (checked_from (onward p x) (suc i) xs) fine in
    let c = fine_anywhere p x i i 0 0 f.0 in
    at_a_step s at p (omega (arith, is_inside s at p x (presses_bytes xs) here c)) ∙
    ap (λ (t : Stepped). and_then t.press (rest_from s t.at t.progress)) (step_there s at p x (presses_bytes xs) here c) ∙
    ap (before x) (presses_read s xs (suc i) (at + length (press_bytes x)) (onward p x) (behind_both s at p x (presses_bytes xs) here c) f.1)

small_mode : (m : ℕ) → wrong_mode m ≡ false → m < limit
small_mode m e = is_mode_law (eqb m 0) (eqb m 1) refl refl e
  where
    is_mode_law : (a b : Bool) → eqb m 0 ≡ a → eqb m 1 ≡ b → not (a || b) ≡ false → m < limit
    is_mode_law true b p q e = omega (arith, eqb-true m 0 p)
    is_mode_law false true p q e = omega (arith, eqb-true m 1 q)
    is_mode_law false false p q e = let z : ◌≡◌ {A = ℕ} 0 1 = cc in absurd (omega arith)

module _ (m : ℕ) (rest : List ℕ) (known : wrong_mode m ≡ false) where
  mode_there : begin (written m ++ rest) ≡ Ok (record { at = length (written m); progress = none_yet m })
  unfolding begin
  mode_there = ap mode_read (number_back m (small_mode m known) rest) ∙ ap (λ (b : Bool). mode_if b (record { value = m; groups = length (written m) })) known

pub write_read : (m : ℕ) (xs : List KeyPress) → wrong_mode m ≡ false → checked_from (none_yet m) 0 xs ≡ (Ok tt) → recorded (drill_bytes m xs) ≡ drill m xs
unfolding recorded
write_read m xs known fine =
    let s = drill_bytes m xs in
    ap (λ (b : Result Begun Refusal). recorded_after b s) (mode_there m (presses_bytes xs) known) ∙
    ap (in_mode m)
    (enough s (length s) (length s - length (written m)) (length (written m)) (none_yet m) (omega arith) (omega arith) ∙
    presses_read s xs 0 (length (written m)) (none_yet m) (drop-append_seam (written m) (presses_bytes xs)) fine)

-- what is read is written: the presses from a place on spell the bytes from there on, and each of them is fine
pub record Spelled (s : List ℕ) (at : ℕ) (p : Progress) (xs : List KeyPress) : Type 0 where
  pub bytes : drop at s ≡ presses_bytes xs
  pub fine : (i : ℕ) → checked_from p i xs ≡ Ok tt

no_presses : {A : Type 0} {r : Refusal} {xs : List KeyPress} → broken r ≡ presses xs → A
no_presses e = let z : ◌≡◌ {A = ℕ} 0 1 = cc in absurd (omega arith)

same_presses : {xs ys : List KeyPress} → presses xs ≡ presses ys → xs ≡ ys
same_presses e = cc

module _ (s : List ℕ) (all_bytes : AllBytes s) where
  none_spelled : (at : ℕ) (p : Progress) (xs : List KeyPress) → length s ≤ at → rest_from s at p ≡ presses xs → Spelled s at p xs
  none_spelled at p xs h e = subst (Spelled s at p) (same_presses (sym (past_the_end s at p h) ∙ e)) (record { bytes = drop_of_length-le s h; fine = λ i. refl })

  module _ (at : ℕ) (p : Progress) (x : KeyPress) (next : ℕ) (c : checked p x 0 0 ≡ (Ok tt)) (b : drop at s ≡ press_bytes x ++ drop next s) where
    one_spelled : (ys : List KeyPress) → Spelled s next (onward p x) ys → Spelled s at p (x ∷ ys)
    one_spelled ys more = record {
      bytes = b ∙ ap (λ (bs : List ℕ). press_bytes x ++ bs) more.bytes;
      fine = λ i. ap (λ (d : Result ⊤ Refusal). unless d (checked_from (onward p x) (suc i) ys)) (fine_anywhere p x 0 0 i i c) ∙ more.fine (suc i);
    }

    first_spelled : (xs : List KeyPress) (r : Reading) → rest_from s next (onward p x) ≡ r → before x r ≡ presses xs → ((ys : List KeyPress) → rest_from s next (onward p x) ≡ presses ys → Spelled s next (onward p x) ys) → Spelled s at p xs
    first_spelled xs (broken r) e f more = no_presses f
    first_spelled xs (presses ys) e f more = subst (Spelled s at p) (same_presses f) (one_spelled ys (more ys e))

  spelled : (n at : ℕ) (p : Progress) (xs : List KeyPress) → length s - at ≤ n → rest_from s at p ≡ presses xs → Spelled s at p xs
  spelled zero at p xs h e = none_spelled at p xs (omega arith) e
  spelled (suc n) at p xs h e = go (ltb at (length s)) refl (λ next q ys l f. spelled n next q ys l f)
    where
      go : (b : Bool) → ltb at (length s) ≡ b → ((next : ℕ) (q : Progress) (ys : List KeyPress) → length s - next ≤ n → rest_from s next q ≡ presses ys → Spelled s next q ys) → Spelled s at p xs
      go false l more = none_spelled at p xs (ltb-false at (length s) l) e
      go true l more = met (step_at s at p) (meets s at p) (sym (at_a_step s at p (ltb-true at (length s) l)) ∙ e)
        where
          met : (t : Stepped) → Meets s at p t → and_then t.press (rest_from s t.at t.progress) ≡ presses xs → Spelled s at p xs
          met t (the_end k) f = absurd (omega (arith, ltb-true at (length s) l))
          met t (a_refusal r k) f = no_presses f
          met t (a_press x next c k i b) f = first_spelled at p x next c (b all_bytes) xs (rest_from s next (onward p x)) refl f (λ ys g. more next (onward p x) ys (omega arith) g)

-- a recording that is read: its mode is one, its presses are fine, and writing them gives its bytes
pub record Rewritten (s : List ℕ) (m : ℕ) (xs : List KeyPress) : Type 0 where
  pub known : wrong_mode m ≡ false
  pub fine : checked_from (none_yet m) 0 xs ≡ Ok tt
  pub bytes : drill_bytes m xs ≡ s

no_drill : {A : Type 0} {r : Refusal} {m : ℕ} {xs : List KeyPress} → refused_at r ≡ drill m xs → A
no_drill e = let z : ◌≡◌ {A = ℕ} 0 1 = cc in absurd (omega arith)

module _ (s : List ℕ) (all_bytes : AllBytes s) (m : ℕ) (xs : List KeyPress) where
  module _ (n : Number) (there : number s ≡ Some n) where
    by_reading : wrong_mode n.value ≡ false → (r : Reading) → rest_from s n.groups (none_yet n.value) ≡ r → in_mode n.value r ≡ drill m xs → Rewritten s m xs
    by_reading known (broken r) e f = no_drill f
    by_reading known (presses ys) e f =
        let mode : n.value ≡ m = cc in
        let all : ys ≡ xs = cc in
        let back = spelled s all_bytes (length s) n.groups (none_yet n.value) ys (omega arith) e in
        subst (λ (k : ℕ). Rewritten s k xs) mode (subst (Rewritten s n.value) all (record {
          known = known;
          fine = back.fine 0;
          bytes = ap (λ (bs : List ℕ). written n.value ++ bs) (sym back.bytes) ∙ sym (written_back s n there all_bytes);
        }))

    by_mode : (b : Bool) → wrong_mode n.value ≡ b → recorded_after (mode_if b n) s ≡ drill m xs → Rewritten s m xs
    by_mode true e f = no_drill f
    by_mode false e f =
        by_reading e (rest_from s n.groups (none_yet n.value)) refl
        (ap (in_mode n.value) (enough s (length s - n.groups) (length s) n.groups (none_yet n.value) (omega arith) (omega arith)) ∙ f)

  by_number : (o : Option Number) → number s ≡ o → recorded_after (mode_read o) s ≡ drill m xs → Rewritten s m xs
  by_number None e f = no_drill f
  by_number (Some n) e f = by_mode n e (wrong_mode n.value) refl f

  pub read_write : recorded s ≡ drill m xs → Rewritten s m xs
  unfolding recorded begin
  read_write e = by_number (number s) refl e
