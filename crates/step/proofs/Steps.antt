-- The step's answer by its tests; and a key kept and counted is the word with the key typed.
use Rattle.std.specs.Prelude.{Ok, Err}
use mathlib.Core.Path.{◌≡◌, sym, ap, subst, ◌∙◌}
use mathlib.Core.Bool.{Bool, true, false, not}
use mathlib.Core.List.{List, [], ◌∷◌, ◌++◌}
use Prim.Native.Nat.{ℕ, ◌+◌, ◌≤◌, ◌<◌}
use native.Mathlib.Omega.{arith}
use lib.Dec.{T}
use lib.ListN.{length, take, set, length-append, length-map}
use lib.Seq.{length-take-le}
use borrow.Author.Tests.{lt-ltb, le-ltb}
use Rattle.rules.specs.TheWord.{Done, outcome_of, touched_of, most_keys, letter, word_of, holding, counted}
use Rattle.rules.specs.KeyRoles.{is_key, letter_of_key, key_does}
use Rattle.rules.specs.Refusals.{place_of_byte, out_of_range, refusal}
use Rattle.rules.specs.WhatComesBack.{step}
use Rattle.rules.specs.declared.Word.{Word}
use Rattle.rules.specs.declared.Touched.{Touched}
use Rattle.rules.specs.declared.Touched.TheVariants.{NoLetter, OneLetter, TwoLetters}
use Rattle.rules.specs.declared.Step.{Step}
use Rattle.rules.specs.LettersOfAMode.{AllFine}
use Rattle.rules.proofs.Numbers.{numbers_letters, fine_letters}
use Rattle.rules.proofs.Range.{InRange, in_range}
use Rattle.rules.proofs.StaysInRange.{Whole}
use Rattle.rules.proofs.KeyPlaces.{Leaves, leaves}
use Rattle.records.specs.Numbers.{word_in}
use Rattle.step.specs.declared.Counts.{Counts}
use Rattle.step.specs.declared.Done as Answer
use Rattle.step.specs.LentLetters.{Canonical, RoomForLetter, DoesAsRuled, counted_in, TouchesIn, by_then, shaped_then, toned_then}
use Rattle.step.proofs.KeysPut.{behind_front, by_put, shaped_put, key_touches, toned_put}

pub in_range_of : (w : Word) → out_of_range w ≡ false → InRange w
in_range_of w e = in_range w (subst (λ (b : Bool). T (not b)) (sym e) tt)

-- a record with room for a key, whose letters are letters of its mode
pub record RoomForKey (w : Word) : Type 0 where
  pub room : w.typed < most_keys
  pub fewer : w.count ≤ w.typed
  pub canonical : Canonical (take w.count w.letters)
  pub fine : AllFine w.mode (word_of w).state.letters

-- the step's answer where it is not refused
abbrev pub did_of : Word → ℕ → Done → Step
did_of w k d = record { answer = Ok (outcome_of d); word = holding w (counted (word_of w) k d) }

-- a record in range with room for a key is ready for it
pub ready : (w : Word) → InRange w → w.typed < most_keys → RoomForKey w
ready w r h = record { room = h; fewer = r.fewer; canonical = numbers_letters w.mode (take w.count w.letters) r.letters.allowed; fine = fine_letters (take w.count w.letters) r.letters }

-- and so are its letters
pub room_in : (w : Word) → RoomForKey w → length w.letters ≡ most_keys → RoomForLetter w.letters w.count
room_in w r whole =
    record {
      given = record { whole = whole; fits = omega (arith, r.room, r.fewer); canonical = r.canonical };
      room = omega (arith, r.room, r.fewer);
    }

-- the key kept and counted
module _ (w : Word) (k : ℕ) (r : InRange w) (room : w.typed < most_keys) (whole : Whole w) where
  typed_long : length (take w.typed w.keys) ≡ w.typed
  typed_long = length-take-le w.typed w.keys (omega (arith, whole.keys, room))

  typed_then : w.typed + 1 ≡ length (take w.typed w.keys ++ (k ∷ []))
  typed_then = simp (length-append, typed_long)

  letters_long : length (word_of w).state.letters ≡ w.count
  letters_long = length-map (take w.count w.letters) letter ∙ length-take-le w.count w.letters (omega (arith, whole.letters, r.count))

  abbrev does : Done
  does = key_does (word_of w) k

  left : Leaves (word_of w).state (letter_of_key k) does
  left = leaves (word_of w) k

  touches : TouchesIn w.count (touched_of does)
  touches = subst (λ (n : ℕ). TouchesIn n (touched_of does)) letters_long (key_touches left)

  -- so they are in the arrays, with room for a letter more
  wider : (m n : ℕ) (g : Touched) → m ≤ n → TouchesIn m g → TouchesIn n g
  wider m n NoLetter h t = tt
  wider m n (OneLetter i) h t = omega arith
  wider m n (TwoLetters i) h t = omega arith

  pub touches_in : {x : Answer.Done} {l : List ℕ} → DoesAsRuled does w.letters x l →
      (w.count < length w.appended_by) × (w.count < length w.shaped_by) × TouchesIn (length w.shaped_by) x.touched
  touches_in {x} e = (
    omega (arith, room, r.fewer, whole.by),
    omega (arith, room, r.fewer, whole.shaped_by),
    wider w.count (length w.shaped_by) x.touched (omega (arith, r.count, whole.shaped_by)) (subst (TouchesIn w.count) (sym (ap (λ (y : Answer.Done). y.touched) e.told)) touches),
  )

  abbrev counts : Counts
  counts = record { acted = w.acted; undone = w.undone; appended = w.appended }

  -- the word as it is put together at the end
  abbrev together : Answer.Done → List ℕ → Counts → List ℕ → List ℕ → List ℕ → ℕ → ℕ → Step
  together x l n ps ss ks p t =
      record {
        answer = Ok x.outcome;
        word =
            word_in w.mode l ps ss ks p
            (record { count = x.rest.count; tone = x.rest.tone; closed = x.rest.closed; typed = t; acted = n.acted; undone = n.undone; appended = n.appended });
      }

  pub kept : {x : Answer.Done} {l ps ss : List ℕ} {n : Counts} {p : ℕ} → DoesAsRuled does w.letters x l → n ≡ counted_in counts x.outcome → ps ≡ by_then w.appended_by w.count w.typed x.outcome →
      ss ≡ shaped_then w.shaped_by w.count w.typed x.touched x.outcome → p ≡ toned_then w.tone x.rest.tone w.typed w.toned_by →
      together x l n ps ss (set w.keys w.typed k) p (w.typed + 1) ≡ did_of w k does
  kept {x} e f by shaped toned =
      let here = length (take w.typed w.keys) in
      let told = e.told in
      let c = f ∙ ap (λ (y : Answer.Done). counted_in counts y.outcome) told in
      let few : w.count < most_keys = omega (arith, room, r.fewer) in
      let b =
      by ∙ (λ i. by_then w.appended_by w.count (sym typed_long i) (told i).outcome) ∙ by_put w.appended_by w.count here (omega (arith, few, whole.by)) does in
      let s =
      shaped ∙ (λ i. shaped_then w.shaped_by w.count (sym typed_long i) (told i).touched (told i).outcome) ∙ shaped_put w.shaped_by w.count here (omega (arith, few, whole.shaped_by)) does touches in
      let t = toned ∙ (λ i. toned_then w.tone (told i).rest.tone (sym typed_long i) w.toned_by) ∙ toned_put left here w.toned_by in
      λ i. together (told i) (e.left i) (c i) (b i) (s i) (behind_front w.keys w.typed k (omega (arith, whole.keys, room)) i) (t i) (typed_then i)

-- the answer by the tests
abbrev refused_step : Word → ℕ → ℕ → Step
refused_step w number value = record { answer = Err (record { number = number; value = value }); word = w }

module _ (w : Word) (k : ℕ) where
  pub out_of_range_law : out_of_range w ≡ true → refused_step w 8 0 ≡ step w k
  unfolding step refusal
  out_of_range_law e = simp e

  pub full : out_of_range w ≡ false → most_keys ≤ w.typed → refused_step w 2 most_keys ≡ step w k
  unfolding step refusal
  full e h = simp (e, lt-ltb most_keys (w.typed + 1) (omega arith))

  byte_place : is_key w.mode k ≡ false → place_of_byte (record { mode = w.mode; already = w.typed; bytes = k ∷ [] }) ≡ w.typed
  byte_place n = let e : w.typed + 0 ≡ w.typed = omega arith in ap (λ (b : Bool). w.typed + elim b [ true ↦ 1 | false ↦ 0 ]) n ∙ e

  pub no_key : out_of_range w ≡ false → w.typed < most_keys → is_key w.mode k ≡ false → refused_step w 3 w.typed ≡ step w k
  unfolding step refusal
  no_key e h n = simp (e, le-ltb most_keys (w.typed + 1) (omega arith), n) (ap (refused_step w 3) (sym (byte_place n)))

  pub accepted : out_of_range w ≡ false → w.typed < most_keys → is_key w.mode k ≡ true → did_of w k (key_does (word_of w) k) ≡ step w k
  unfolding step refusal
  accepted e h n = simp (e, le-ltb most_keys (w.typed + 1) (omega arith), n)
