-- The places of keys that a step stores in their arrays are those of the rules, at the front of what stood there.
use mathlib.Core.Path.{◌≡◌, refl, sym, ap, ap₂, ◌∙◌}
use mathlib.Core.Bool.{Bool, true, false, not}
use mathlib.Core.List.{List, [], ◌∷◌, ◌++◌, append_assoc}
use Prim.Native.Nat.{ℕ, suc, ◌≤◌, ◌<◌}
use native.Mathlib.Numerals.{add-one}
use native.Mathlib.Omega.{arith}
use lib.Dec.{T, eqb}
use lib.ListN.{length, take, drop, set, length-set, length-append, take-append-drop}
use lib.Seq.{length-take-le, set-append_left, set_split, take-set-lt, drop-set-lt}
use borrow.Author.Tests.{eq-eqb}
use Rattle.rules.specs.Letters.{Letter, Letters, no_tone}
use Rattle.rules.specs.TheWord.{State, Done, acted, undone, appended, state_of, touched_of, outcome_of, no_key, at_front, shaped_on, appended_after, shaped_after, toned_after}
use Rattle.rules.specs.KeyRoles.{one_further}
use Rattle.rules.specs.declared.Touched.{Touched}
use Rattle.rules.specs.declared.Touched.TheVariants.{NoLetter, OneLetter, TwoLetters}
use Rattle.rules.specs.declared.Outcome.{Outcome}
use Rattle.rules.specs.declared.Outcome.TheVariants.{Acted, Undone, Appended}
use Rattle.rules.proofs.Tests.{is_false}
use Rattle.rules.proofs.Edits.{Reshaped, one, two, later, puts_shape, puts_stroke}
use Rattle.rules.proofs.KeyPlaces.{Leaves, sets_tone, clears_tone, puts_on, tone_off, shape_off, added_plainly, added_horning, shape_not_tone}
use Rattle.rules.proofs.Records.{front_front}
use Rattle.rules.proofs.StaysInRange.{read_front, length_shaped_on}
use Rattle.step.specs.LentLetters.{TouchesIn, by_then, shaper_of, shaped_then, toned_then}

-- what stands in front, written again; and a number behind it
module _ (l : List ℕ) (n : ℕ) where
  pub same_front : n ≤ length l → l ≡ at_front (take n l) l
  same_front h = sym (ap (λ (k : ℕ). take n l ++ drop k l) (length-take-le n l h) ∙ take-append-drop n l)

  pub behind_front : (v : ℕ) → n < length l → set l n v ≡ at_front (take n l ++ (v ∷ [])) l
  behind_front v h =
      let k : length (take n l ++ (v ∷ [])) ≡ suc n = simp (length-append, add-one) (ap suc (length-take-le n l (omega arith))) in
      set_split l n v h ∙ sym (append_assoc (take n l) (v ∷ []) (drop (suc n) l)) ∙ ap (λ (j : ℕ). (take n l ++ (v ∷ [])) ++ drop j l) (sym k)

  -- a place in front
  in_front : (i v : ℕ) → i < n → n ≤ length l → set l i v ≡ at_front (set (take n l) i v) l
  in_front i v h k =
      let e = length-take-le n l k in
      ap (λ (m : List ℕ). set m i v) (sym (take-append-drop n l)) ∙ set-append_left (take n l) (drop n l) i v (omega arith) ∙
      ap (λ (j : ℕ). set (take n l) i v ++ drop j l) (sym (length-set (take n l) i v ∙ e))

-- the touched letters' keys
on_front : (p : ℕ) (g : Touched) (l : List ℕ) (n : ℕ) → TouchesIn n g → n ≤ length l → shaped_on p g l ≡ at_front (shaped_on p g (take n l)) l
on_front p NoLetter l n t h = same_front l n h
on_front p (OneLetter i) l n t h = in_front l n i p t h
on_front p (TwoLetters i) l n t h =
    let first = set l i p in
    in_front first n (suc i) p (omega arith) (simp length-set h) ∙
    ap₂ (λ (a b : List ℕ). set a (suc i) p ++ b) (take-set-lt n l i p (omega arith))
    (ap (λ (j : ℕ). drop j first) (length-set (take n first) (suc i) p ∙ length-take-le n first (simp length-set h)) ∙ drop-set-lt n l i p (omega arith)) ∙
    ap (λ (j : ℕ). set (set (take n l) i p) (suc i) p ++ drop j l) (sym (length-set (set (take n l) i p) (suc i) p ∙ length-set (take n l) i p ∙ length-take-le n l h))

on_then : (p : ℕ) (g : Touched) (l : List ℕ) (n : ℕ) → TouchesIn n g → n < length l → set (shaped_on p g l) n no_key ≡ at_front (shaped_on p g (take n l) ++ (no_key ∷ [])) l
on_then p g l n t h =
    let front = shaped_on p g (take n l) in
    let long : length front ≡ n = length_shaped_on p g (take n l) ∙ length-take-le n l (omega arith) in
    let e = on_front p g l n t (omega arith) in
    behind_front (shaped_on p g l) n no_key (omega (arith, length_shaped_on p g l)) ∙
    ap₂ (λ (a b : List ℕ). at_front (a ++ (no_key ∷ [])) b) (ap (take n) e ∙ read_front front l n long) e ∙
    front_front (front ++ (no_key ∷ [])) front l (simp length-append (omega arith))

-- as many as there were
pub length_by_then : (l : List ℕ) (n here : ℕ) (o : Outcome) → length (by_then l n here o) ≡ length l
length_by_then l n here (Acted a) = refl
length_by_then l n here Undone = length-set l n here
length_by_then l n here Appended = length-set l n here

pub length_shaped_then : (l : List ℕ) (n here : ℕ) (g : Touched) (o : Outcome) → length (shaped_then l n here g o) ≡ length l
length_shaped_then l n here g o = length_by_then (shaped_on (shaper_of o here) g l) n no_key o ∙ length_shaped_on (shaper_of o here) g l

-- after a key at a place
module _ (l : List ℕ) (n here : ℕ) (h : n < length l) where
  pub by_put : (d : Done) → by_then l n here (outcome_of d) ≡ at_front (appended_after here (take n l) d) l
  by_put (acted a g s) = same_front l n (omega arith)
  by_put (undone g s) = behind_front l n here h
  by_put (appended g s) = behind_front l n here h

  pub shaped_put : (d : Done) → TouchesIn n (touched_of d) → shaped_then l n here (touched_of d) (outcome_of d) ≡ at_front (shaped_after here (take n l) d) l
  shaped_put (acted a g s) t = on_front here g l n t (omega arith)
  shaped_put (undone g s) t = on_then no_key g l n t h
  shaped_put (appended g s) t = on_then here g l n t h

-- the letters that an edit touches are there
touches_further : (n : ℕ) (g : Touched) → TouchesIn n g → TouchesIn (suc n) (one_further g)
touches_further n NoLetter t = tt
touches_further n (OneLetter i) t = omega arith
touches_further n (TwoLetters i) t = omega arith

edit_touches : {sh : ℕ} {g : Touched} {v w : Letters} → Reshaped sh g v w → TouchesIn (length v) g
edit_touches one = omega arith
edit_touches two = omega arith
edit_touches (later {g = g} {v = v} y) = touches_further (length v) g (edit_touches y)

-- the key that set the tone, by the tones
as_before : (t here p : ℕ) → toned_then t t here p ≡ p
as_before t here p = rw (toned_then, eq-eqb t t refl)

changed : (t u here p : ℕ) → T (not (eqb t u)) → toned_then t u here p ≡ elim (eqb u no_tone) [ true ↦ no_key | false ↦ here ]
changed t u here p n = rw (toned_then, is_false (eqb t u) n)

module _ {s : State} {k : Letter} where
  pub key_touches : {d : Done} → Leaves s k d → TouchesIn (length s.letters) (touched_of d)
  key_touches (sets_tone t m n) = tt
  key_touches (clears_tone n) = tt
  key_touches (puts_on (puts_shape n y)) = edit_touches y
  key_touches (puts_on (puts_stroke y)) = edit_touches y
  key_touches (tone_off n) = tt
  key_touches (shape_off y) = edit_touches y
  key_touches added_plainly = tt
  key_touches (added_horning y) = edit_touches y

  pub toned_put : {d : Done} → Leaves s k d → (here p : ℕ) → toned_then s.tone (state_of d).tone here p ≡ toned_after here p d
  toned_put (sets_tone t m n) here p = changed s.tone t here p n ∙ ap (λ (b : Bool). elim b [ true ↦ no_key | false ↦ here ]) (is_false (eqb t no_tone) m)
  toned_put (clears_tone n) here p = changed s.tone no_tone here p n
  toned_put (puts_on (puts_shape n y)) here p = as_before s.tone here p
  toned_put (puts_on (puts_stroke y)) here p = as_before s.tone here p
  toned_put (tone_off n) here p = changed s.tone no_tone here p n
  toned_put (shape_off y) here p = as_before s.tone here p ∙ sym (shape_not_tone p y)
  toned_put added_plainly here p = as_before s.tone here p
  toned_put (added_horning y) here p = as_before s.tone here p
