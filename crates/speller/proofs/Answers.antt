-- The answers by their tests: each refusal is the row of its test, and past them all the standard keys are written.
use Rattle.std.specs.Prelude.{Result}
use mathlib.Core.Path.{◌≡◌, sym, ap, ap₂, subst, ◌∙◌}
use mathlib.Core.Bool.{true, false, not}
use mathlib.Core.List.{List, map}
use Prim.Native.Nat.{ℕ, ◌+◌, ◌*◌, ◌≤◌, ◌<◌}
use native.Mathlib.Omega.{arith}
use lib.Dec.{T}
use lib.ListN.{length, take}
use lib.Seq.{length-take-le}
use borrow.Author.Tests.{lt-ltb, le-ltb, eq-eqb, ne_eqb}
use Rattle.rules.specs.Letters.{Letters}
use Rattle.rules.specs.TheWord.{most_bytes, letter}
use Rattle.rules.specs.CodePoints.{Sign}
use Rattle.rules.specs.Speller.{read, stuck_at, reading, letters_in, fault, standard_keys, spelled}
use Rattle.rules.specs.Refusals.{is_mode, refusal}
use Rattle.rules.specs.WhatComesBack.{Written, spell}
use Rattle.output.specs.Front.{put}
use Rattle.speller.specs.declared.ReadSoFar.{ReadSoFar}
use Rattle.speller.specs.TextRead.{have_capitals, ReadInto, refused_write}
use Rattle.rules.specs.declared.Refusal.{Refusal}

-- the letters that are read: the front of the array
module _ {text ns : List ℕ} {r : ReadSoFar} (into : ReadInto text ns r) where
  abbrev part : List ℕ
  part = take r.count ns

  pub letters_are : map letter part ≡ letters_in into.so_far.signs
  letters_are = into.so_far.letters

  pub with_capitals : T (have_capitals (map letter part))
  with_capitals = subst (λ (w : Letters). T (have_capitals w)) (sym letters_are) into.so_far.capitals

  pub few_letters : length ns ≡ most_bytes → length text ≤ most_bytes → 2 * length part < 2 * most_bytes + 1
  few_letters e h = omega (arith, length-take-le r.count ns (omega (arith, into.so_far.fewer, into.so_far.within)), into.so_far.fewer, into.so_far.within)

-- a refusal leaves the output as it was
abbrev unwritten : ℕ → ℕ → List ℕ → Written
unwritten n v out = record { answer = refused_write n v; output = out }

pub refuses : {w : Written} {n v : ℕ} {out : List ℕ} {a : Result ℕ Refusal} → a ≡ refused_write n v → w ≡ unwritten n v out → (a ≡ w.answer) × (out ≡ w.output)
refuses e k = (e ∙ sym (ap (λ (x : Written). x.answer) k), sym (ap (λ (x : Written). x.output) k))

module _ (m : ℕ) (text out : List ℕ) where
  pub no_mode : not (is_mode m) ≡ true → spell m text out ≡ unwritten 1 0 out
  unfolding spell refusal
  no_mode e = simp e

  module _ (e : not (is_mode m) ≡ false) where
    pub too_long : most_bytes < length text → spell m text out ≡ unwritten 2 most_bytes out
    unfolding spell refusal
    too_long h = simp (e, lt-ltb most_bytes (length text) h)

    module _ (h : length text ≤ most_bytes) where
      no_letter : (n : ℕ) → read text ≡ stuck_at n → spell m text out ≡ unwritten 6 n out
      unfolding spell refusal
      no_letter n r = simp (e, le-ltb most_bytes (length text) h, r)

      no_syllable : (ss : List Sign) → read text ≡ reading ss → (fault ss ≡ 0 → ⊥) → spell m text out ≡ unwritten 7 (fault ss) out
      unfolding spell refusal
      no_syllable ss r n = simp (e, le-ltb most_bytes (length text) h, r, ne_eqb (fault ss) 0 n)

      written : (ss : List Sign) → read text ≡ reading ss → fault ss ≡ 0 → spell m text out ≡ put (spelled m ss) out
      unfolding spell refusal put
      written ss r z = simp (e, le-ltb most_bytes (length text) h, r, eq-eqb (fault ss) 0 z)

-- by what is read of the text
module _ (m : ℕ) (out : List ℕ) {text ns : List ℕ} {r : ReadSoFar} (e : not (is_mode m) ≡ false) (h : length text ≤ most_bytes) (into : ReadInto text ns r) where
  pub stuck_there : r.at < length text → spell m text out ≡ unwritten 6 r.at out
  stuck_there l = no_letter m text out e h r.at (into.stuck l)

  -- the text is read to its end
  module _ (l : length text ≤ r.at) {v : ℕ} (k : v ≡ fault into.so_far.signs) where
    pub faulty : (v ≡ 0 → ⊥) → spell m text out ≡ unwritten 7 v out
    faulty n = no_syllable m text out e h into.so_far.signs (into.whole l) (λ z. n (k ∙ z)) ∙ ap (λ (x : ℕ). unwritten 7 x out) (sym k)

    pub spelt : v ≡ 0 → {keys : List ℕ} → keys ≡ standard_keys m (map letter (take r.count ns)) r.tone → put keys out ≡ spell m text out
    spelt z q =
        ap (λ (ks : List ℕ). put ks out) (q ∙ ap₂ (standard_keys m) (letters_are into) (ap (λ (x : ReadSoFar). x.tone) into.so_far.held)) ∙
        sym (written m text out e h into.so_far.signs (into.whole l) (sym k ∙ z))
