-- The words so far and one more: the counts, the bytes, and the line in its place.
use mathlib.Core.Path.{◌≡◌, refl, sym, ap, ◌∙◌}
use mathlib.Core.Bool.{Bool, true, false}
use mathlib.Core.List.{List, [], ◌∷◌, ◌++◌}
use Prim.Native.Nat.{ℕ, ◌+◌, ◌≤◌, ◌<◌}
use native.Mathlib.Omega.{arith}
use borrow.Author.Tests.{le-leb, lt-leb, leb-true}
use lib.Dec.{leb}
use lib.ListN.{length, take, drop, length-append, length-take, length-drop}
use Rattle.rules.specs.TheWord.{at_front}
use Rattle.rules.specs.WhatComesBack.{typed}
use Rattle.rules.specs.declared.Decision.{Decision}
use Rattle.rules.specs.declared.Decision.TheVariants.{Keep, Restore}
use Rattle.replay.specs.Replays.{committed_line, if_kept, if_restored, done_of}
use Rattle.replay.specs.Passes.{with_done, line_if, line_at, some_keys, total_if, output_if}
use Rattle.replay.specs.declared.Found.{Found}

pub one_or_none : (d : Decision) → (if_kept d ≤ 1) × (if_restored d ≤ 1)
one_or_none Keep = (omega arith, omega arith)
one_or_none Restore = (omega arith, omega arith)

module _ (at : ℕ) (line out : List ℕ) where
  pub no_room : length out < at + length line → out ≡ line_at at line out
  unfolding line_at
  no_room h = sym (ap (λ (b : Bool). line_if b at line out) (lt-leb (at + length line) (length out) h))

  pub has_room : at + length line ≤ length out → take at out ++ at_front line (drop at out) ≡ line_at at line out
  unfolding line_at
  has_room h = sym (ap (λ (b : Bool). line_if b at line out) (le-leb (at + length line) (length out) h))

  pub as_long : length (line_at at line out) ≡ length out
  unfolding line_at
  as_long = go (leb (at + length line) (length out)) refl
    where
      go : (b : Bool) → leb (at + length line) (length out) ≡ b → length (line_if b at line out) ≡ length out
      go true e = let room = leb-true (at + length line) (length out) e in simp (length-append, length-take, length-drop) (omega arith)
      go false e = refl

-- a word that is committed or not, by its test
module _ {b : Bool} (m : ℕ) (ks : List ℕ) (t : Found) (out : List ℕ) where
  pub not_added : b ≡ false → (t ≡ total_if b m ks t) × (out ≡ output_if b m ks t out)
  not_added e = (λ i. total_if (sym e i) m ks t, λ i. output_if (sym e i) m ks t out)

  pub added : {ls : List ℕ} {r : Found} {after : List ℕ} → b ≡ true → ls ≡ ks → r ≡ with_done t (done_of (typed m ls)) → after ≡ line_at t.written (committed_line (typed m ls)) out → (r ≡ total_if b m ks t) × (after ≡ output_if b m ks t out)
  added e k p q = (p ∙ (λ i. total_if (sym e i) m (k i) t), q ∙ (λ i. output_if (sym e i) m (k i) t out))

pub output_long : (b : Bool) (m : ℕ) (ks : List ℕ) (t : Found) (out : List ℕ) → length (output_if b m ks t out) ≡ length out
output_long true m ks t out = as_long t.written (committed_line (typed m ks)) out
output_long false m ks t out = refl

pub no_keys : (ks : List ℕ) → length ks ≡ 0 → some_keys ks ≡ false
no_keys [] e = refl
no_keys (k ∷ ks) e = absurd (omega arith)

pub some_keys_law : (ks : List ℕ) → (length ks ≡ 0 → ⊥) → some_keys ks ≡ true
some_keys_law [] n = absurd (n refl)
some_keys_law (k ∷ ks) n = refl
