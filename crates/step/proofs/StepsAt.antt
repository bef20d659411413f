-- The step over a record's bytes by its tests: no record, refused, or typed; and over the bytes of a word it is the step of that word.
use Rattle.std.specs.Option.{unwrap_or}
use Rattle.std.specs.Prelude.{Result, Ok, Err, is_some, Option, Some}
use mathlib.Core.Path.{◌≡◌, refl, sym, ap, ap₂, subst, ◌∙◌}
use mathlib.Core.Bool.{Bool, true, false, not, ◌||◌}
use mathlib.Core.List.{List}
use Prim.Native.Nat.{ℕ, ◌<◌}
use native.Mathlib.Omega.{arith}
use lib.Dec.{T, leb}
use lib.ListN.{length}
use borrow.Author.Tests.{leb-true, leb-false, not-true, not-false}
use Rattle.rules.specs.TheWord.{most_keys}
use Rattle.rules.specs.AnswersInNumbers.{step_says}
use Rattle.rules.specs.KeyRoles.{is_key}
use Rattle.rules.specs.Refusals.{out_of_range}
use Rattle.rules.specs.WhatComesBack.{step}
use Rattle.rules.specs.declared.Word.{Word}
use Rattle.rules.specs.declared.Outcome.{Outcome}
use Rattle.rules.specs.declared.Refusal.{Refusal}
use Rattle.rules.specs.declared.Step.{Step}
use Rattle.rules.proofs.Refused.{refused_step}
use Rattle.rules.proofs.StaysInRange.{Whole, step_in_range}
use Rattle.layout.specs.Places.{bytes_with, as_bytes, part, word_from, as_record, record_written, letters_put, is_record, held, or_new}
use Rattle.layout.proofs.Answers.{length_part, written}
use Rattle.layout.proofs.InPlace.{letters_there, long_word}
use Rattle.layout.proofs.RoundTrips.{written_read, read_in_place, read_parts, read_long, read_whole}
use Rattle.records.specs.declared.Numbers.{Numbers}
use Rattle.records.specs.Numbers.{numbers_of, word_in}
use Rattle.step.specs.InPlace.{SteppedAt, refused_with, bytes_after, leaving, step_if, step_at, not_taken, held_in, ReadyAt, TypedAt}
use Rattle.step.proofs.Steps.{out_of_range_law, full, no_key}

-- a step leaves its arrays as long as they were
pub stepped_whole : (w : Word) (k : ℕ) → Whole w → Whole (step w k).word
stepped_whole w k whole = go (out_of_range w) refl
  where
    go : (b : Bool) → out_of_range w ≡ b → Whole (step w k).word
    go true e = subst (λ (s : Step). Whole s.word) (out_of_range_law w k e) whole
    go false e = (step_in_range w k whole (subst (λ (b : Bool). T (not b)) (sym e) tt)).1

module _ (bs : List ℕ) (key : ℕ) where
  pub no_record : is_record bs ≡ false → {a : Result Outcome Refusal} → a ≡ refused_with 8 0 → (a ≡ (step_at bs key).answer) × (bs ≡ (step_at bs key).bytes)
  unfolding step_at
  no_record e p = let q = ap (λ (b : Bool). step_if b (held bs) key bs) e in (p ∙ sym (ap (λ (x : SteppedAt). x.answer) q), sym (ap (λ (x : SteppedAt). x.bytes) q))

  -- a key that was refused: the bytes are as they were
  pub as_it_was : (x : Refusal) → (step_at bs key).answer ≡ Err x → (step_at bs key).bytes ≡ bs
  unfolding step_at
  as_it_was x = go (is_record bs)
    where
      go : (b : Bool) → (step_if b (held bs) key bs).answer ≡ Err x → (step_if b (held bs) key bs).bytes ≡ bs
      go true e = ap (λ (a : Result Outcome Refusal). bytes_after a (step (held bs) key).word bs) e
      go false e = refl

  -- a key that was taken: the bytes are a record, and now that of the step
  module _ {o : Outcome} (d : (step_at bs key).answer ≡ Ok o) where
    abbrev w : Word
    w = (held bs)

    pub was_record : is_record bs ≡ true
    unfolding step_at
    was_record = go (is_record bs) d
      where
        go : (b : Bool) → (step_if b w key bs).answer ≡ Ok o → b ≡ true
        go true e = refl
        go false e = let z : ◌≡◌ {A = ℕ} 0 1 = cc in absurd (omega arith)

    stepped : step_at bs key ≡ leaving (step w key) bs
    unfolding step_at
    stepped = ap (λ (b : Bool). step_if b w key bs) was_record

    pub was_done : (step w key).answer ≡ Ok o
    was_done = sym (ap (λ (x : SteppedAt). x.answer) stepped) ∙ d

    pub now_written : (step_at bs key).bytes ≡ record_written (step w key).word bs
    now_written = ap (λ (x : SteppedAt). x.bytes) stepped ∙ ap (λ (a : Result Outcome Refusal). bytes_after a (step w key).word bs) was_done

    pub now_held : as_record (step_at bs key).bytes ≡ Some ((step w key).word)
    now_held = ap as_record (now_written ∙ written (step w key).word bs (read_long bs was_record)) ∙ written_read (step w key).word (stepped_whole w key (read_whole bs))

  module _ (r : Option Word) (e : r ≡ as_record bs) (t : (is_some r) ≡ true) where
    is_step : leaving (step (or_new r) key) bs ≡ step_at bs key
    unfolding step_at
    is_step = sym (ap (λ (b : Bool). step_if b (or_new r) key bs) t) ∙ ap (λ (y : Option Word). step_if (is_some y) (or_new y) key bs) e

    pub refuses : (number value : ℕ) {a : Result Outcome Refusal} → a ≡ refused_with number value → record { answer = refused_with number value; word = (or_new r) } ≡ step (or_new r) key →
        (a ≡ (step_at bs key).answer) × (bs ≡ (step_at bs key).bytes)
    refuses number value p s =
        let q = ap (λ (x : Step). leaving x bs) s ∙ is_step in
        (p ∙ ap (λ (x : SteppedAt). x.answer) q, ap (λ (x : SteppedAt). x.bytes) q)

    -- a key that is not taken, by the one question of both
    module _ (range : out_of_range (or_new r) ≡ false) {allowed : Bool} (k : allowed ≡ is_key (or_new r).mode key) where
      pub takes_none : leb most_keys (or_new r).typed || not allowed ≡ true → {a : Result Outcome Refusal} → a ≡ not_taken (or_new r).typed → (a ≡ (step_at bs key).answer) × (bs ≡ (step_at bs key).bytes)
      takes_none f {a} p = go (leb most_keys (or_new r).typed) refl f
        where
          by_test : Bool → Result Outcome Refusal
          by_test b = elim b [ true ↦ refused_with 2 most_keys | false ↦ refused_with 3 (or_new r).typed ]

          go : (b : Bool) → leb most_keys (or_new r).typed ≡ b → b || not allowed ≡ true → (a ≡ (step_at bs key).answer) × (bs ≡ (step_at bs key).bytes)
          go true m h = refuses 2 most_keys (p ∙ ap by_test m) (full (or_new r) key range (omega (arith, leb-true most_keys (or_new r).typed m)))
          go false m h =
              refuses 3 (or_new r).typed (p ∙ ap by_test m) (no_key (or_new r) key range (omega (arith, leb-false most_keys (or_new r).typed m)) (sym k ∙ not-true allowed h))

      pub takes_it : leb most_keys (or_new r).typed || not allowed ≡ false → ((or_new r).typed < most_keys) × (is_key (or_new r).mode key ≡ true)
      takes_it f = go (leb most_keys (or_new r).typed) refl f
        where
          go : (b : Bool) → leb most_keys (or_new r).typed ≡ b → b || not allowed ≡ false → ((or_new r).typed < most_keys) × (is_key (or_new r).mode key ≡ true)
          go true m h = let z : ◌≡◌ {A = ℕ} 0 1 = cc in absurd (omega arith)
          go false m h = (leb-false most_keys (or_new r).typed m, sym k ∙ not-false allowed h)

    -- the key typed, and the letters put into their place
    pub types : {o : Outcome} {letters new : List ℕ} {v : Word} → Whole (or_new r) → v ≡ (or_new r) → TypedAt (step v key) bs o letters new → {put : List ℕ} → put ≡ letters_put letters new →
        (Ok o ≡ (step_at bs key).answer) × (put ≡ (step_at bs key).bytes)
    types {o} {letters} {new} whole same typed p =
        let d = subst (λ (w : Word). TypedAt (step w key) bs o letters new) same typed in
        let s = step (or_new r) key in
        let long = read_long bs (sym (ap (λ (x : Option Word). is_some x) e) ∙ t) in
        let ls = part 40 64 bs in
        let there = letters_there ls (length_part 40 64 bs (omega arith)) s.word (stepped_whole (or_new r) key whole) in
        let bytes = p ∙ ap₂ letters_put d.lettered d.stored ∙ there ∙ sym (written s.word bs long) in
        (d.told ∙ ap (λ (x : SteppedAt). x.answer) is_step, bytes ∙ ap (λ (a : Result Outcome Refusal). bytes_after a s.word bs) d.told ∙ ap (λ (x : SteppedAt). x.bytes) is_step)

    -- the word that the bytes hold is the one that was read
    module _ (n : Numbers) (numbered : n ≡ numbers_of (or_new r)) {letters : List ℕ} (lettered : letters ≡ (held bs).letters) where
      is_record_law : is_record bs ≡ true
      is_record_law = sym (ap (λ (x : Option Word). is_some x) e) ∙ t

      pub is_held : held_in bs letters (or_new r).mode n ≡ (or_new r)
      is_held =
          let read : (or_new r) ≡ word_from bs = ap (λ (x : Option Word). or_new x) e ∙ read_parts bs is_record_law in
          let own = lettered ∙ sym (ap (λ (x : Option Word). (or_new x).letters) e) in
          λ i. word_in (or_new r).mode (own i) (sym read i).appended_by (sym read i).shaped_by (sym read i).keys (sym read i).toned_by (numbered i)

      pub ready_at : out_of_range (or_new r) ≡ false → n.typed < most_keys → is_key (or_new r).mode key ≡ true → ReadyAt bs letters (or_new r).mode n key
      ready_at range room allowed =
          record {
            long = read_long bs is_record_law;
            places = ap (λ (l : List ℕ). length l) lettered ∙ (read_whole bs).letters;
            held = sym (read_in_place bs is_record_law) ∙ ap (bytes_with (part 40 64 bs)) (sym (ap (λ (x : Option Word). or_new x) e) ∙ sym is_held);
            range = subst (λ (w : Word). out_of_range w ≡ false) (sym is_held) range;
            room = room;
            allowed = allowed;
          }

-- over the bytes of a word
module _ (w : Word) (whole : Whole w) (key : ℕ) where
  of_word : step_at (as_bytes w) key ≡ leaving (step w key) (as_bytes w)
  of_word = sym (is_step (as_bytes w) key (Some (w)) (sym (written_read w whole)) refl)

  pub answers : (step_at (as_bytes w) key).answer ≡ (step w key).answer
  answers = ap (λ (x : SteppedAt). x.answer) of_word

  pub leaves : (step_at (as_bytes w) key).bytes ≡ as_bytes (step w key).word
  leaves = ap (λ (x : SteppedAt). x.bytes) of_word ∙ go (step w key).answer refl
    where
      go : (a : Result Outcome Refusal) → (step w key).answer ≡ a → bytes_after a (step w key).word (as_bytes w) ≡ as_bytes (step w key).word
      go (Ok o) e = written (step w key).word (as_bytes w) (long_word w whole)
      go (Err x) e = sym (ap as_bytes (refused_step w key x (ap step_says e)))

  -- lent, and read back
  pub read_back : {a : Result Outcome Refusal} {before after : List ℕ} {r : Option Word} (old : List ℕ) → length old ≡ 169 → before ≡ record_written w old → a ≡ (step_at before key).answer → after ≡ (step_at before key).bytes → r ≡ as_record after →
      record { answer = a; word = unwrap_or r w } ≡ step w key
  read_back {a} {before} {after} {r} old long p q s e =
      let own = p ∙ written w old long in
      let answer = q ∙ ap (λ (bs : List ℕ). (step_at bs key).answer) own ∙ answers in
      let bytes = s ∙ ap (λ (bs : List ℕ). (step_at bs key).bytes) own ∙ leaves in
      let word = ap (λ (x : Option Word). unwrap_or x w) (e ∙ ap as_record bytes ∙ written_read (step w key).word (stepped_whole w key whole)) in
      λ i. record { answer = answer i; word = word i }
