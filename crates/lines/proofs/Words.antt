-- What the line of a word in range is made of, and the line of keys: their word's, or a refusal's whose numbers fit their columns.
use Rattle.std.specs.Prelude.{Option, Some, None, Ok, Err}
use mathlib.Core.Path.{◌≡◌, refl, sym, ap, subst, ◌∙◌}
use mathlib.Core.Bool.{Bool, true, false, not, ◌&&◌}
use mathlib.Core.List.{List, [], ◌∷◌}
use Prim.Native.Nat.{ℕ, suc, ◌+◌, ◌≤◌, ◌<◌}
use native.Mathlib.Omega.{arith}
use borrow.Author.Tests.{ltb-false}
use lib.Dec.{T, eqb, ltb, lit≤}
use lib.ListN.{length, take, length-take, length-map}
use Rattle.rules.specs.Letters.{Letters}
use Rattle.rules.specs.TakingApart.{verdict}
use Rattle.rules.specs.TonePlace.{tone_place}
use Rattle.rules.specs.TheWord.{most_keys, most_bytes, Typed, word_of, at_front}
use Rattle.rules.specs.KeyRoles.{is_key}
use Rattle.rules.specs.CodePoints.{shown}
use Rattle.rules.specs.Decision.{keeps, decision, handed_back}
use Rattle.rules.specs.Refusals.{all, is_mode, allowed_before, out_of_range, refusal}
use Rattle.rules.specs.WhatComesBack.{type_all}
use Rattle.rules.specs.Drill.{decimal, or_hyphen, place_column, decision_column, word_columns, refused_line, line_or, keys_line}
use Rattle.rules.specs.declared.Word.{Word}
use Rattle.rules.specs.declared.Refusal.{Refusal}
use Rattle.rules.specs.declared.Decision.{Decision}
use Rattle.rules.proofs.StaysInRange.{read_front}
use Rattle.rules.proofs.NotRefused.{refused_as, not_refused, typed_word}
use Rattle.rules.proofs.TonePlaces.{place_in_word}
use Rattle.rules.proofs.Range.{in_range, few_letters}
use Rattle.word.specs.Deciding.{decided_by}
use Rattle.show.specs.Filling.{room_text}
use Rattle.show.proofs.Texts.{text_of_law}
use Rattle.show.proofs.Answers.{in_room}
use Rattle.lines.specs.Appending.{ended_by, SmallPlace}

-- the place of a tone is below the number of letters
place_small : (w : Letters) (t : ℕ) → length w ≤ most_keys → (p : Option ℕ) → tone_place w t ≡ p → SmallPlace p
place_small w t few (Some n) e = omega (arith, place_in_word w t n e)
place_small w t few None e = tt

-- a word in range
module _ (w : Word) (e : out_of_range w ≡ false) where
  abbrev its_text : List ℕ
  its_text = shown (word_of w).state

  -- its letters, as they are lent
  abbrev lent : List ℕ
  lent = take w.count w.letters

  room_text_law : (out : List ℕ) → most_bytes ≤ length out → room_text lent w.tone out ≡ its_text
  room_text_law out h =
      let few : length lent ≤ most_keys = simp length-take (omega (arith, few_letters w e)) in
      sym (in_room lent w.tone out few h) ∙ text_of_law w e

  abbrev decide : Letters → ℕ → Decision
  decide l v = decided_by (eqb w.acted 0 && eqb w.undone 0) w.closed l v

  pub its_decision : (v : ℕ) → v ≡ verdict (word_of w).state.letters w.tone → decide (word_of w).state.letters v ≡ decision (word_of w)
  unfolding keeps
  its_decision v f = ap (decide (word_of w).state.letters) f

  -- what the line of the word is made of
  module _ (n : ℕ) (old : List ℕ) (h : most_bytes ≤ length old) (m : n ≡ length (room_text lent w.tone old)) where
    pub text_long : n ≡ length its_text
    text_long = m ∙ ap length (room_text_law old h)

    pub text_made : (buffer : List ℕ) → buffer ≡ at_front (room_text lent w.tone old) old → take n buffer ≡ its_text
    text_made buffer b = ap (take n) (b ∙ ap (λ (t : List ℕ). at_front t old) (room_text_law old h)) ∙ read_front its_text old n (sym text_long)

  pub place_fits : (p : Option ℕ) → p ≡ tone_place (word_of w).state.letters w.tone → SmallPlace p
  place_fits p f = place_small (word_of w).state.letters w.tone (simp (length-map, length-take) (omega (arith, few_letters w e))) p (sym f)

  pub few_typed : w.typed ≤ most_keys
  few_typed = (in_range w (subst (λ (b : Bool). T (not b)) (sym e) tt)).typed

  pub its_columns : (text : List ℕ) (v : ℕ) (p : Option ℕ) (x : Decision) (end : ℕ) → text ≡ its_text → v ≡ verdict (word_of w).state.letters w.tone
      → p ≡ tone_place (word_of w).state.letters w.tone → x ≡ decision (word_of w)
      → ended_by end (or_hyphen text ∷ or_hyphen (handed_back x text (take w.typed w.keys)) ∷ decimal v ∷ decimal w.tone ∷ place_column p ∷ decision_column x ∷ []) ≡ ended_by end (word_columns (word_of w))
  its_columns text v p x end et ev ep ex = λ i. ended_by end (or_hyphen (et i) ∷ or_hyphen (handed_back (ex i) (et i) (take w.typed w.keys)) ∷ decimal (ev i) ∷ decimal w.tone ∷ place_column (ep i) ∷ decision_column (ex i) ∷ [])

-- keys that are typed, and keys that are refused
few_allowed : (m : ℕ) (ks : List ℕ) → allowed_before m ks ≤ length ks
few_allowed m [] = lit≤ tt
few_allowed m (k ∷ ks) = go (is_key m k) (few_allowed m ks)
  where
    go : (b : Bool) → allowed_before m ks ≤ length ks → elim b [ true ↦ suc (allowed_before m ks) | false ↦ 0 ] ≤ suc (length ks)
    go true h = omega arith
    go false h = omega arith

module _ (m : ℕ) (ks : List ℕ) where
  pub refused_keys : (of_word : Typed → List ℕ) (x : Refusal) → (type_all m ks).answer ≡ Err x → refused_line x ≡ keys_line of_word m ks
  refused_keys of_word x e = sym (ap (λ (o : Option Refusal). line_or of_word o m ks) (refused_as m ks x e))

  pub small_value : (x : Refusal) → (type_all m ks).answer ≡ Err x → x.value < 256
  unfolding refusal
  small_value x a = go (not (is_mode m)) (ltb most_keys (0 + length ks)) refl (not (all (is_key m) ks)) (refused_as m ks x a)
    where
      go : (p q : Bool) → ltb most_keys (0 + length ks) ≡ q → (r : Bool)
          → elim p [ true ↦ Some (record { number = 1; value = 0 }) | false ↦ elim q [ true ↦ Some (record { number = 2; value = most_keys }) | false ↦ elim r [ true ↦ Some (record { number = 3; value = 0 + allowed_before m ks }) | false ↦ None ] ] ] ≡ Some x
          → x.value < 256
      go true q h r f = let v : 0 ≡ x.value = ap (λ (o : Option Refusal). elim o [ None ↦ 0 | Some y ↦ y.value ]) f in omega arith
      go false true h r f = let v : most_keys ≡ x.value = ap (λ (o : Option Refusal). elim o [ None ↦ 0 | Some y ↦ y.value ]) f in omega arith
      go false false h true f =
          let v : 0 + allowed_before m ks ≡ x.value = ap (λ (o : Option Refusal). elim o [ None ↦ 0 | Some y ↦ y.value ]) f in
          omega (arith, few_allowed m ks, ltb-false most_keys (0 + length ks) h)
      go false false h false f = let z : ◌≡◌ {A = ℕ} 0 1 = cc in absurd (omega arith)

  pub typed_keys : (of_word : Typed → List ℕ) → (type_all m ks).answer ≡ (Ok tt) → of_word (word_of (type_all m ks).word) ≡ keys_line of_word m ks
  typed_keys of_word a = ap of_word (typed_word m ks a) ∙ sym (ap (λ (o : Option Refusal). line_or of_word o m ks) (not_refused m ks a))
