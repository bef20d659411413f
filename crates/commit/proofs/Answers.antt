-- The ruling by its tests, in the order in which the code asks them, and what the code makes of a word in range.
use Rattle.std.specs.Prelude.{Ok, Err, Result, ⊤}
use mathlib.Core.Path.{◌≡◌, refl, sym, ap, subst, ◌∙◌}
use mathlib.Core.Bool.{Bool, true, false, not, ◌&&◌}
use mathlib.Core.List.{List, [], ◌∷◌, map}
use Prim.Native.Nat.{ℕ, ◌+◌, ◌-◌, ◌≤◌, ◌<◌}
use native.Mathlib.Omega.{arith}
use borrow.Author.Tests.{lt-ltb, le-ltb}
use lib.Pointwise.{pointwise}
use lib.Dec.{T, eqb}
use lib.ListN.{length, take, length-take}
use Rattle.rules.specs.TakingApart.{verdict}
use Rattle.rules.specs.TheWord.{Typed, most_keys, most_bytes, letter, word_of, at_front}
use Rattle.rules.specs.KeyRoles.{is_key}
use Rattle.rules.specs.CodePoints.{shown}
use Rattle.rules.specs.Decision.{keeps, decision}
use Rattle.rules.specs.Refusals.{all, is_mode, same_bytes, allowed_before, out_of_range, refusal}
use Rattle.rules.specs.WhatComesBack.{typed, type_all, Written, show}
use Rattle.rules.specs.declared.Word.{Word}
use Rattle.rules.specs.declared.Refusal.{Refusal}
use Rattle.rules.specs.declared.Decision.{Decision}
use Rattle.rules.specs.declared.Decision.TheVariants.{Keep as Kept, Restore as Restored}
use Rattle.rules.proofs.NotRefused.{so_long, its_front, typed_word}
use Rattle.rules.proofs.Commits.{same_bytes_law}
use Rattle.rules.proofs.Range.{few_letters}
use Rattle.show.specs.Filling.{room_text}
use Rattle.show.proofs.Answers.{made_there, shown_word}
use Rattle.word.specs.Deciding.{decided_by}
use Rattle.commit.specs.declared.Ruling.{Ruling}
use Rattle.commit.specs.declared.Ruling.TheVariants.{Keep, Restore}
use Rattle.commit.specs.Rulings.{decided, judged_if, judged, ruling_of}

abbrev refused_as : ℕ → ℕ → Result Ruling Refusal
refused_as n v = Err (record { number = n; value = v })

-- the library's comparison is the table's
is_same : (bs cs : List ℕ) → pointwise eqb bs cs ≡ same_bytes bs cs
is_same [] [] = refl
is_same [] (c ∷ cs) = refl
is_same (b ∷ bs) [] = refl
is_same (b ∷ bs) (c ∷ cs) = ap (◌&&◌ (eqb b c)) (is_same bs cs)

module _ (w : Word) where
  abbrev its_text : List ℕ
  its_text = shown (word_of w).state

  abbrev lent : List ℕ
  lent = take w.count w.letters

  -- what the code makes of the letters, as they are lent: the decision, and of a word in range the text
  abbrev decide : ℕ → Decision
  decide = decided_by (eqb w.acted 0 && eqb w.undone 0) w.closed (map letter lent)

  pub decides_so : (v : ℕ) (d : Decision) → v ≡ verdict (map letter lent) w.tone → d ≡ decide v → d ≡ decision (word_of w)
  unfolding keeps
  decides_so v d e f = f ∙ ap decide e

  module _ (range : out_of_range w ≡ false) where
    module _ (n : ℕ) (old buffer : List ℕ) (room : most_bytes ≤ length old) (many : n ≡ length (room_text lent w.tone old)) (made : buffer ≡ at_front (room_text lent w.tone old) old) where
      shows : record { answer = Ok n; output = buffer } ≡ show w old
      shows =
          let few : length lent ≤ most_keys = simp length-take (omega (arith, few_letters w range)) in
          sym (made_there lent w.tone old few n room many buffer made) ∙ shown_word w old refl range

      text_front : take (n - 0) buffer ≡ its_text
      text_front = its_front w range old room (Ok n) (ap (λ (x : Written). x.answer) shows) n refl buffer (ap (λ (x : Written). x.output) shows)

      pub text_long : n ≡ length its_text
      text_long = so_long w range old room (Ok n) (ap (λ (x : Written). x.answer) shows) n refl

      front_made : take n buffer ≡ its_text
      front_made = let m : n ≡ n - 0 = omega arith in ap (λ (k : ℕ). take k buffer) m ∙ text_front

      -- a text that is compared with what is made is compared with the word's
      pub compared : (text : List ℕ) {same : Bool} → same ≡ pointwise eqb text (take n buffer) → same_bytes text its_text ≡ same
      compared text e = sym (e ∙ is_same text (take n buffer) ∙ ap (same_bytes text) front_made)

    -- the same of parts that are taken from place 0 on
    abbrev from_0 : List ℕ
    from_0 = take (w.count - 0) w.letters

    is_lent : from_0 ≡ lent
    is_lent = let m : w.count - 0 ≡ w.count = omega arith in ap (λ (k : ℕ). take k w.letters) m

    pub decides : (v : ℕ) (d : Decision) → v ≡ verdict (map letter from_0) w.tone → d ≡ decided_by (eqb w.acted 0 && eqb w.undone 0) w.closed (map letter from_0) v → d ≡ decision (word_of w)
    decides v d e f =
        decides_so v d (e ∙ ap (λ (l : List ℕ). verdict (map letter l) w.tone) is_lent)
        (f ∙ ap (λ (l : List ℕ). decided_by (eqb w.acted 0 && eqb w.undone 0) w.closed (map letter l) v) is_lent)

    pub text_made : (n : ℕ) (old buffer : List ℕ) → most_bytes ≤ length old → n ≡ length (room_text from_0 w.tone old) → buffer ≡ at_front (room_text from_0 w.tone old) old → take (n - 0) buffer ≡ its_text
    text_made n old buffer room many made =
        text_front n old buffer room (many ∙ ap (λ (l : List ℕ). length (room_text l w.tone old)) is_lent) (made ∙ ap (λ (l : List ℕ). at_front (room_text l w.tone old) old) is_lent)

  -- the ruling on a text for it
  module _ (text : List ℕ) where
    pub other_text : same_bytes text its_text ≡ false → refused_as 5 0 ≡ judged (word_of w) text
    other_text h = sym (ap (λ (b : Bool). judged_if b (word_of w) text) h)

    pub kept : (n : ℕ) → same_bytes text its_text ≡ true → n ≡ length its_text → decision (word_of w) ≡ Kept → Ok (Keep n) ≡ judged (word_of w) text
    kept n h m d =
        ap (λ (l : ℕ). Ok (Keep l)) (m ∙ sym (ap length (same_bytes_law text its_text (subst T (sym h) tt)))) ∙
        sym (ap (λ (b : Bool). judged_if b (word_of w) text) h ∙ ap (λ (x : Decision). decided x text) d)

    pub restored : same_bytes text its_text ≡ true → decision (word_of w) ≡ Restored → (Ok Restore) ≡ judged (word_of w) text
    restored h d = sym (ap (λ (b : Bool). judged_if b (word_of w) text) h ∙ ap (λ (x : Decision). decided x text) d)

module _ (m : ℕ) (ks text : List ℕ) where
  pub no_mode : not (is_mode m) ≡ true → refused_as 1 0 ≡ ruling_of m ks text
  unfolding ruling_of refusal
  no_mode e = simp e

  pub too_many : not (is_mode m) ≡ false → most_keys < length ks → refused_as 2 most_keys ≡ ruling_of m ks text
  unfolding ruling_of refusal
  too_many e h = simp (e, lt-ltb most_keys (0 + length ks) (omega arith))

  pub too_long : not (is_mode m) ≡ false → length ks ≤ most_keys → most_bytes < length text → refused_as 2 most_bytes ≡ ruling_of m ks text
  unfolding ruling_of refusal
  too_long e h l = simp (e, le-ltb most_keys (0 + length ks) (omega arith), lt-ltb most_bytes (length text) l)

  -- what is past the first three
  module _ (mode : not (is_mode m) ≡ false) (few : length ks ≤ most_keys) (short : length text ≤ most_bytes) where
    no_key : all (is_key m) ks ≡ false → refused_as 3 (0 + allowed_before m ks) ≡ ruling_of m ks text
    unfolding ruling_of refusal
    no_key e = simp (mode, le-ltb most_keys (0 + length ks) (omega arith), le-ltb most_bytes (length text) short, e)

    typed_no_key : all (is_key m) ks ≡ false → (type_all m ks).answer ≡ Err (record { number = 3; value = 0 + allowed_before m ks })
    unfolding type_all refusal
    typed_no_key e = simp (mode, le-ltb most_keys (0 + length ks) (omega arith), e)

    all_keys : all (is_key m) ks ≡ true → (type_all m ks).answer ≡ Ok tt
    unfolding type_all refusal
    all_keys e = simp (mode, le-ltb most_keys (0 + length ks) (omega arith), e)

    -- typing is refused where commit is, with the same numbers
    pub not_typed : (x : Refusal) → (type_all m ks).answer ≡ Err x → Err x ≡ ruling_of m ks text
    not_typed x e = go (all (is_key m) ks) refl
      where
        go : (b : Bool) → all (is_key m) ks ≡ b → Err x ≡ ruling_of m ks text
        go true d =
            let f : ◌≡◌ {A = Result ⊤ Refusal} (Ok tt) (Err x) = sym (all_keys d) ∙ e in
            let z : ◌≡◌ {A = ℕ} 0 1 = cc in
            absurd (omega arith)
        go false d =
            let f : Err x ≡ Err (record { number = 3; value = 0 + allowed_before m ks }) = sym e ∙ typed_no_key d in
            let g : x ≡ record { number = 3; value = 0 + allowed_before m ks } = cc in
            ap (λ (y : Refusal). Err y) g ∙ no_key d

    -- past the keys: the ruling is that on the word that they make
    module _ (a : (type_all m ks).answer ≡ (Ok tt)) where
      keys_typed : all (is_key m) ks ≡ true
      keys_typed = go (all (is_key m) ks) refl
        where
          go : (b : Bool) → all (is_key m) ks ≡ b → b ≡ true
          go true d = refl
          go false d =
              let f : ◌≡◌ {A = Result ⊤ Refusal} (Ok tt) (Err (record { number = 3; value = 0 + allowed_before m ks })) = sym a ∙ typed_no_key d in
              let z : ◌≡◌ {A = ℕ} 0 1 = cc in
              absurd (omega arith)

      judges : judged (typed m ks) text ≡ ruling_of m ks text
      unfolding ruling_of refusal
      judges = go (same_bytes text (shown (typed m ks).state)) refl
        where
          go : (b : Bool) → same_bytes text (shown (typed m ks).state) ≡ b → judged_if b (typed m ks) text ≡ ruling_of m ks text
          go true e = simp (mode, le-ltb most_keys (0 + length ks) (omega arith), le-ltb most_bytes (length text) short, keys_typed, e)
          go false e = simp (mode, le-ltb most_keys (0 + length ks) (omega arith), le-ltb most_bytes (length text) short, keys_typed, e)

      pub ruled : judged (word_of (type_all m ks).word) text ≡ ruling_of m ks text
      ruled = ap (λ (z : Typed). judged z text) (typed_word m ks a) ∙ judges
