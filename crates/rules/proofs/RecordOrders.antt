-- Demand 3, first half, of records: any record in range that is open and has room for two more keys, and two keys of different families that would each act alone.
use Rattle.std.specs.Prelude.{Ok}
use mathlib.Core.Path.{◌≡◌, sym, ap, subst, ◌∙◌}
use mathlib.Core.Bool.{Bool, true, false, not}
use mathlib.Core.List.{List, [], ◌∷◌, ◌++◌, map}
use Prim.Native.Nat.{ℕ, ◌+◌, ◌≤◌}
use native.Mathlib.Omega.{arith}
use lib.Dec.{T}
use lib.ListN.{length, take, length-append, length-map}
use lib.Seq.{length-take-le}
use Rattle.rules.specs.TheWord.{State, Typed, Done, acted, undone, appended, state_of, touched_of, outcome_of, most_keys, word_of, at_front, holding}
use Rattle.rules.specs.KeyRoles.{is_key, role, letter_of_key, unless_closed, key_does, type}
use Rattle.rules.specs.Refusals.{all, is_place_or_none, out_of_range}
use Rattle.rules.specs.WhatComesBack.{step}
use Rattle.rules.specs.KeyPlaces.{exchanged, with_keys_exchanged, with_exchanged}
use Rattle.rules.specs.declared.Word.{Word}
use Rattle.rules.specs.declared.Touched.{Touched}
use Rattle.rules.specs.declared.Act.{Act}
use Rattle.rules.specs.declared.Outcome.TheVariants.{Acted}
use Rattle.rules.specs.declared.Step.{Step}
use Rattle.rules.proofs.Commute.{Differ, acts, keeps_length}
use Rattle.rules.proofs.Orders.{PlacesBelow, orders}
use Rattle.rules.proofs.Range.{in_range}
use Rattle.rules.proofs.StaysInRange.{Whole, Abreast, abreast_next, abreast_of, read_front, state_fine, next, step_in_range, taken_by}
use Rattle.rules.proofs.Records.{front_front, word_held, held_twice, accepted}

-- the two records are equal in everything but the kept keys, which are the old keys and then the two in the order typed, and the places of the two, which are exchanged; both keys act in both orders
pub record SameRecords (w : Word) (k m : ℕ) (a b : Act) : Type 0 where
  pub equal : (step (step w k).word m).word ≡ with_exchanged w.typed (step (step w m).word k).word (at_front (take w.typed w.keys ++ (k ∷ m ∷ [])) w.keys)
  pub keys : (step (step w m).word k).word.keys ≡ at_front (take w.typed w.keys ++ (m ∷ k ∷ [])) w.keys
  pub second_acts : (step (step w k).word m).answer ≡ Ok (Acted b)
  pub first_acts : (step (step w m).word k).answer ≡ Ok (Acted a)

-- a step whose answer is acted: the key is allowed, and the rule says acted
acted_of : (d : Done) {a : Act} → outcome_of d ≡ Acted a → d ≡ acted a (touched_of d) (state_of d)
acted_of (acted x g s) e = ap (λ (y : Act). acted y g s) (cc)
acted_of (undone g s) e = let z : ◌≡◌ {A = ℕ} 0 1 = cc in absurd (omega arith)
acted_of (appended g s) e = let z : ◌≡◌ {A = ℕ} 0 1 = cc in absurd (omega arith)

did : (w : Word) (k : ℕ) {a : Act} → (step w k).answer ≡ Ok (Acted a) → T (is_key w.mode k) × (key_does (word_of w) k ≡ acted a (touched_of (key_does (word_of w) k)) (state_of (key_does (word_of w) k)))
did w k {a} h =
    let t = taken_by w k (Acted a) h in
    let e : Ok (outcome_of (key_does (word_of w) k)) ≡ Ok (Acted a) = sym (ap (λ (x : Step). x.answer) (accepted w k t.range t.room t.key)) ∙ h in
    (t.key, acted_of (key_does (word_of w) k) (cc))

-- a key that acts keeps the number of letters
acting_length : (z : Typed) (k : ℕ) {a : Act} {g : Touched} {s : State} → key_does z k ≡ acted a g s → length z.state.letters ≡ length s.letters
acting_length z k {a} {g} {s} h = go z.state.closed h
  where
    go : (c : Bool) → unless_closed c (role z.mode k) z.state (letter_of_key k) ≡ acted a g s → length z.state.letters ≡ length s.letters
    go true e = let y : ◌≡◌ {A = ℕ} 0 1 = cc in absurd (omega arith)
    go false e = keeps_length (acts (role z.mode k) z.state (letter_of_key k) e)

-- other keys of the same number and exchanged places, held
exchanged_held : (n : ℕ) (w : Word) (z : Typed) (ks : List ℕ) → Abreast z → length ks ≡ length z.keys → holding w (with_keys_exchanged n z ks) ≡ with_exchanged n (holding w z) (at_front ks w.keys)
exchanged_held n w z ks a e =
    let old = z.places.shaped_by in
    let read = read_front old w.shaped_by (length z.state.letters) a.shaped_by in
    let long : length old ≡ length (map (exchanged n) old) = sym (length-map old (exchanged n)) in
    let shaped : at_front (map (exchanged n) old) w.shaped_by ≡ at_front (map (exchanged n) (take (length z.state.letters) (at_front old w.shaped_by))) (at_front old w.shaped_by) =
    sym (front_front (map (exchanged n) old) old w.shaped_by (omega (arith, long))) ∙ ap (λ (ps : List ℕ). at_front (map (exchanged n) ps) (at_front old w.shaped_by)) (sym read) in
    λ i. record {
      mode = z.mode;
      letters = (holding w z).letters;
      appended_by = (holding w z).appended_by;
      shaped_by = shaped i;
      count = (holding w z).count;
      tone = z.state.tone;
      toned_by = exchanged n z.places.toned_by;
      closed = z.state.closed;
      keys = at_front ks w.keys;
      typed = e i;
      acted = z.acted;
      undone = z.undone;
      appended = z.appended;
    }

-- two keys that act one after the other
module _ (w : Word) (whole : Whole w) (range : T (not (out_of_range w))) (room : w.typed + 2 ≤ most_keys) where
  -- as many places of keys as letters, after one key and after two
  one_abreast : (k : ℕ) → T (is_key w.mode k) → Abreast (type (word_of w) k)
  one_abreast k key = let r = in_range w range in abreast_next (word_of w) k (next (word_of w) k key (state_fine w r)) (abreast_of w whole r.count)

  two_abreast : (k m : ℕ) → T (is_key w.mode k) → T (is_key w.mode m) → Abreast (type (type (word_of w) k) m)
  two_abreast k m key key' =
      abreast_next (type (word_of w) k) m (next (type (word_of w) k) m key' (next (word_of w) k key (state_fine w (in_range w range))).fine) (one_abreast k key)

  two_steps : (k m : ℕ) {b : Act} {g : Touched} {v : State} → T (is_key w.mode k) → T (is_key w.mode m) → key_does (type (word_of w) k) m ≡ acted b g v →
      step (step w k).word m ≡ record { answer = Ok (Acted b); word = holding w (type (type (word_of w) k) m) }
  two_steps k m {b} key key' h =
      let z = word_of w in
      let r = in_range w range in
      let one : (step w k).word ≡ holding w (type z k) = ap (λ (s : Step). s.word) (accepted w k range (omega arith) key) in
      let held : word_of (holding w (type z k)) ≡ type z k = word_held w (type z k) (next z k key (state_fine w r)).fine.letters (one_abreast k key) in
      let in_range_then : T (not (out_of_range (holding w (type z k)))) = subst (λ (x : Word). T (not (out_of_range x))) one (step_in_range w k whole range).0 in
      let typed_then : length (z.keys ++ (k ∷ [])) ≡ w.typed + 1 = simp (length-append, length-take-le w.typed w.keys (omega (arith, whole.keys, r.typed))) in
      let letters_then : length (type z k).state.letters ≡ length (type (type z k) m).state.letters = acting_length (type z k) m h ∙ ap (λ (d : Done). length (state_of d).letters) (sym h) in
      let keys_then : length (type z k).keys ≤ length (type (type z k) m).keys = simp (length-append (type z k).keys (m ∷ [])) (omega arith) in
      ap (λ (x : Word). step x m) one ∙ accepted (holding w (type z k)) m in_range_then (omega (arith, typed_then)) key' ∙
      ap (λ (y : Typed). record { answer = Ok (outcome_of (key_does y m)); word = holding (holding w (type z k)) (type y m) }) held ∙
      (λ i. record { answer = Ok (outcome_of (h i)); word = held_twice w (type z k) (type (type z k) m) (one_abreast k key) (two_abreast k m key key') (omega (arith, letters_then)) keys_then i })

  pub record_orders : (k m : ℕ) {a b : Act} → w.closed ≡ false → Differ (role w.mode k) (role w.mode m) →
      (step w k).answer ≡ Ok (Acted a) → (step w m).answer ≡ Ok (Acted b) → SameRecords w k m a b
  record_orders k m o p g h =
      let (key, does) = did w k g in
      let (key', does') = did w m h in
      let r = in_range w range in
      let long : length (take w.typed w.keys) ≡ w.typed = length-take-le w.typed w.keys (omega (arith, whole.keys, r.typed)) in
      let below : PlacesBelow (word_of w) = record {
        shaped = subst (λ (n : ℕ). T (all (is_place_or_none n) (word_of w).places.shaped_by)) (sym long) r.shaped_by;
        toned = subst (λ (n : ℕ). T (is_place_or_none n w.toned_by)) (sym long) r.toned_by;
        room = omega (arith, long);
      } in
      let both = orders (word_of w) k m o below p does does' in
      let old = take w.typed w.keys in
      let ks = old ++ (k ∷ m ∷ []) in
      let one = two_steps k m key key' both.second_acts in
      let other = two_steps m k key' key both.first_acts in
      record {
        equal =
            ap (λ (s : Step). s.word) one ∙ ap (holding w) both.equal ∙
            ap (λ (n : ℕ). holding w (with_keys_exchanged n (type (type (word_of w) m) k) ks)) long ∙
            exchanged_held w.typed w (type (type (word_of w) m) k) ks (two_abreast m k key' key)
            (length-append old (k ∷ m ∷ []) ∙ sym (length-append old (m ∷ k ∷ [])) ∙ ap length (sym both.keys)) ∙
            ap (λ (s : Step). with_exchanged w.typed s.word (at_front ks w.keys)) (sym other);
        keys = ap (λ (s : Step). s.word.keys) other ∙ ap (λ (ks : List ℕ). at_front ks w.keys) both.keys;
        second_acts = ap (λ (s : Step). s.answer) one;
        first_acts = ap (λ (s : Step). s.answer) other;
      }
