-- Lines of words: a text and a newline at the front of a line, the line of a word in range, and what comes back of the keys of a word.
use Rattle.std.specs.Prelude.{Option, Ok, Err}
use mathlib.Core.Path.{◌≡◌, refl, sym, ap, subst, ◌∙◌}
use mathlib.Core.Bool.{Bool, not, false, ◌&&◌}
use mathlib.Core.List.{List, [], ◌∷◌, ◌++◌, append_assoc, map}
use Prim.Native.Nat.{ℕ, suc, ◌+◌, ◌-◌, ◌≤◌, ◌<◌}
use native.Mathlib.Numerals.{add-one}
use native.Mathlib.Omega.{arith}
use lib.Dec.{T, eqb}
use lib.ListN.{length, take, drop, get_or, set, length-append, length-take}
use lib.Seq.{drop-cons, set_at}
use Rattle.rules.specs.TakingApart.{verdict}
use Rattle.word.specs.Deciding.{decided_by}
use Rattle.rules.specs.TheWord.{letter, Typed, most_keys, most_bytes, word_of, at_front}
use Rattle.rules.specs.CodePoints.{shown}
use Rattle.rules.specs.Decision.{decision, handed_back}
use Rattle.rules.specs.Refusals.{out_of_range}
use Rattle.rules.specs.WhatComesBack.{type_all}
use Rattle.rules.specs.Drill.{newline}
use Rattle.rules.specs.declared.Word.{Word}
use Rattle.rules.specs.declared.Refusal.{Refusal}
use Rattle.rules.specs.declared.Decision.{Decision}
use Rattle.rules.specs.declared.Decision.TheVariants.{Keep, Restore}
use Rattle.rules.proofs.NotRefused.{refused_as, not_refused, typed_word}
use Rattle.rules.proofs.Range.{in_range}
use Rattle.rules.proofs.StaysInRange.{read_front}
use Rattle.rules.proofs.TextFits.{text_fits}
use Rattle.show.specs.Filling.{room_text}
use Rattle.commit.proofs.Answers.{text_made, decides}
use Rattle.replay.specs.Replays.{WordReplayed, committed_line, done_of, word_or, word_replayed}
use Rattle.replay.specs.declared.WordDone.{WordDone}

-- a text at the front of a line, and a newline behind it
ended : (text old : List ℕ) (n : ℕ) (line : List ℕ) → length text < length old → n ≡ length text → line ≡ at_front text old
    → (n + 1 ≡ length (text ++ (newline ∷ []))) × (set line n newline ≡ at_front (text ++ (newline ∷ [])) old)
ended text old n line room e f =
    let copied : line ≡ text ++ (get_or old (length text) 0 ∷ drop (suc (length text)) old) = f ∙ simp (drop-cons old (length text) 0 room) in
    let front : text ++ (newline ∷ drop (suc (length text)) old) ≡ at_front (text ++ (newline ∷ [])) old = simp (length-append, add-one, append_assoc) in
    (simp length-append (omega arith), ap (λ (l : List ℕ). set l n newline) copied ∙ set_at text _ _ newline n (sym e) ∙ front)

short : (d : Decision) (text keys : List ℕ) → length text ≤ most_bytes → length keys ≤ most_keys → length (handed_back d text keys) ≤ most_bytes
short Keep text keys h k = h
short Restore text keys h k = omega arith

-- a word in range has at most 32 keys; its line and what comes of it, by its decision and what is made of its letters or copied of its keys
module _ (w : Word) (range : out_of_range w ≡ false) where
  pub few_typed : w.typed ≤ most_keys
  few_typed = (in_range w (subst (λ (b : Bool). T (not b)) (sym range) tt)).typed

  -- as the crate of the commit lends the letters
  as_lent : w.count ≡ w.count - 0
  as_lent = omega arith

  pub its_decision : (v : ℕ) (d : Decision) → v ≡ verdict (map letter (take w.count w.letters)) w.tone → d ≡ decided_by (eqb w.acted 0 && eqb w.undone 0) w.closed (map letter (take w.count w.letters)) v → d ≡ decision (word_of w)
  its_decision v d e f =
      decides w range v d (subst (λ (n : ℕ). v ≡ verdict (map letter (take n w.letters)) w.tone) as_lent e)
      (subst (λ (n : ℕ). d ≡ decided_by (eqb w.acted 0 && eqb w.undone 0) w.closed (map letter (take n w.letters)) v) as_lent f)

  module _ (d : Decision) (by : d ≡ decision (word_of w)) (old : List ℕ) (room : length old ≡ 97) where
    abbrev text_of : ℕ → List ℕ
    text_of n = room_text (take n w.letters) w.tone old

    abbrev text : List ℕ
    text = text_of w.count

    abbrev made : List ℕ
    made = handed_back d text (take w.typed w.keys)

    its_text : text ≡ shown (word_of w).state
    its_text =
        let lent = text_of (w.count - 0) in
        ap text_of as_lent ∙ sym (read_front lent old (length lent - 0) (omega arith)) ∙ text_made w range (length lent) old (at_front lent old) (omega arith) refl refl

    its_line : made ++ (newline ∷ []) ≡ committed_line (word_of w)
    its_line = λ i. handed_back (by i) (its_text i) (take w.typed w.keys) ++ (newline ∷ [])

    module _ (n : ℕ) (many : n ≡ length made) where
      pub its_room : n ≤ most_bytes
      its_room = omega (arith, short d text (take w.typed w.keys) (omega (arith, ap length its_text, text_fits w range)) (simp length-take (omega (arith, few_typed))))

      module _ (line : List ℕ) (there : line ≡ at_front made old) where
        abbrev with_newline : (n + 1 ≡ length (made ++ (newline ∷ []))) × (set line n newline ≡ at_front (made ++ (newline ∷ [])) old)
        with_newline = ended made old n line (omega (arith, its_room)) many there

        pub its_done : ◌≡◌ {A = WordDone} (record { bytes = n + 1; decision = d; acted = w.acted; undone = w.undone; appended = w.appended }) (done_of (word_of w))
        its_done = let m = with_newline.0 ∙ ap length its_line in λ i. record { bytes = m i; decision = by i; acted = w.acted; undone = w.undone; appended = w.appended }

        pub its_front : set line n newline ≡ at_front (committed_line (word_of w)) old
        its_front = with_newline.1 ∙ ap (λ (l : List ℕ). at_front l old) its_line

-- keys that are refused, and keys that are typed
module _ (m : ℕ) (ks line : List ℕ) where
  pub refused_word : (x : Refusal) → (type_all m ks).answer ≡ Err x → word_replayed m ks line ≡ record { answer = Err x; line = line }
  unfolding word_replayed
  refused_word x e = ap (λ (o : Option Refusal). word_or o m ks line) (refused_as m ks x e)

  abbrev committed_as : Typed → WordReplayed
  committed_as z = record { answer = Ok (done_of z); line = at_front (committed_line z) line }

  pub committed_word : (type_all m ks).answer ≡ (Ok tt) → committed_as (word_of (type_all m ks).word) ≡ word_replayed m ks line
  unfolding word_replayed
  committed_word a = ap committed_as (typed_word m ks a) ∙ sym (ap (λ (o : Option Refusal). word_or o m ks line) (not_refused m ks a))
