-- A word of allowed keys: it is typed, in range, its line is at most three bytes a key and a newline, and its counts are no more than its keys.
use Rattle.std.specs.Prelude.{Ok}
use mathlib.Core.Path.{◌≡◌, sym, ap, subst, ◌∙◌}
use mathlib.Core.Bool.{Bool, not, false}
use mathlib.Core.List.{List, [], ◌∷◌}
use Prim.Native.Nat.{ℕ, ◌+◌, ◌*◌, ◌≤◌}
use native.Mathlib.Omega.{arith}
use lib.Dec.{T}
use lib.ListN.{length, length-append, length-map, length-take}
use Rattle.rules.specs.TheWord.{most_keys, Typed, new_word, word_of}
use Rattle.rules.specs.KeyRoles.{is_key}
use Rattle.rules.specs.CodePoints.{shown}
use Rattle.rules.specs.Decision.{decision, handed_back}
use Rattle.rules.specs.Refusals.{all, is_mode, out_of_range}
use Rattle.rules.specs.WhatComesBack.{typed, type_all}
use Rattle.rules.specs.Drill.{newline}
use Rattle.rules.specs.declared.TypeAll.{TypeAll}
use Rattle.rules.specs.declared.Decision.{Decision}
use Rattle.rules.specs.declared.Decision.TheVariants.{Keep, Restore}
use Rattle.rules.proofs.Tests.{is_true}
use Rattle.rules.proofs.Counts.{counts_add_up}
use Rattle.rules.proofs.Typing.{kept_keys}
use Rattle.rules.proofs.TextFits.{three_a_letter}
use Rattle.rules.proofs.Range.{in_range}
use Rattle.rules.proofs.NotRefused.{typed_in_range, typed_word}
use Rattle.word.proofs.Answers.{all_typed}
use Rattle.replay.specs.Replays.{committed_line}
use Rattle.replay.specs.Passes.{Fits, FitsKeys}
use Rattle.replay.specs.declared.Found.{Found}

module _ (m : ℕ) (ks : List ℕ) (mode : T (is_mode m)) (few : length ks ≤ most_keys) (allowed : T (all (is_key m) ks)) where
  accepted : (type_all m ks).answer ≡ Ok tt
  accepted = ap (λ (x : TypeAll). x.answer) (all_typed m ks (ap not (is_true (is_mode m) mode)) few allowed)

  pub word_in_range : out_of_range (type_all m ks).word ≡ false
  word_in_range = typed_in_range m ks accepted

  pub is_typed : word_of (type_all m ks).word ≡ typed m ks
  is_typed = typed_word m ks accepted

  keys_long : length (typed m ks).keys ≡ length ks
  keys_long = omega (arith, kept_keys (word_of (new_word m)) ks)

  -- letters are no more than keys
  few_letters : length (typed m ks).state.letters ≤ length ks
  few_letters =
      let w = (type_all m ks).word in
      let range = in_range w (subst (λ (b : Bool). T (not b)) (sym word_in_range) tt) in
      let count : length (word_of w).state.letters ≤ w.count = simp (length-map, length-take) (omega arith) in
      let keys : w.typed ≡ length ks = ap (λ (x : TypeAll). x.word.typed) (all_typed m ks (ap not (is_true (is_mode m) mode)) few allowed) ∙ keys_long in
      omega (arith, count, keys, range.fewer, ap (λ (z : Typed). length z.state.letters) is_typed)

  handed_long : (d : Decision) → length (handed_back d (shown (typed m ks).state) (typed m ks).keys) ≤ 3 * length ks
  handed_long Keep = omega (arith, three_a_letter (typed m ks).state, few_letters)
  handed_long Restore = omega (arith, keys_long)

  pub line_long : length (committed_line (typed m ks)) ≤ 3 * length ks + 1
  line_long = omega (arith, handed_long (decision (typed m ks)), length-append (handed_back (decision (typed m ks)) (shown (typed m ks).state) (typed m ks).keys) (newline ∷ []))

  pub its_counts : (typed m ks).acted + (typed m ks).undone + (typed m ks).appended ≡ length ks
  its_counts = counts_add_up m ks

  -- so a total that fits with so many keys fits with the word
  pub fits_word : (t : Found) → FitsKeys t (length ks) → Fits t (length (committed_line (typed m ks))) (typed m ks).acted (typed m ks).undone (typed m ks).appended
  fits_word t f = record {
    written = omega (arith, f.written, line_long);
    words = f.words;
    kept = f.kept;
    restored = f.restored;
    acted = omega (arith, f.acted, its_counts);
    undone = omega (arith, f.undone, its_counts);
    appended = omega (arith, f.appended, its_counts);
  }
