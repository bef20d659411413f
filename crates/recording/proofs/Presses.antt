-- The checks of one press: what each of the tests says, and what is known where none of them holds.
use Rattle.std.specs.Prelude.{Ok, Err, Result, ⊤}
use mathlib.Core.Path.{◌≡◌, refl, sym, ap, ◌∙◌}
use mathlib.Core.Bool.{Bool, true, false, not, ◌||◌}
use mathlib.Core.List.{[], ◌∷◌}
use Prim.Native.Nat.{ℕ, ◌+◌, ◌<◌}
use Prim.Native.Char.{code}
use native.Mathlib.Omega.{arith}
use lib.Dec.{eqb, ltb}
use borrow.Author.Tests.{ltb-true, ltb-false, leb-false, le-leb, lt-leb, ne_eqb}
use Rattle.rules.specs.KeyRoles.{is_key}
use Rattle.rules.specs.Refusals.{row, first_row}
use Rattle.rules.specs.declared.Refusal.{Refusal}
use Rattle.rules.proofs.Bools.{and_false}
use Rattle.groups.specs.Numbers.{limit}
use Rattle.recording.specs.Recordings.{is_space, press, word_full, not_allowed, too_long, refused_for, checked_of, checked}
use Rattle.recording.specs.declared.Progress.{Progress}
use Rattle.recording.specs.declared.KeyPress.{KeyPress}

-- no key number over 255 is a key
pub over : (mode k : ℕ) → 255 < k → false ≡ is_key mode k
over mode k h =
    simp (le-leb (code "a") k (omega arith), lt-leb k (code "z") (omega arith), le-leb (code "A") k (omega arith), lt-leb k (code "Z") (omega arith), le-leb (code "0") k (omega arith), lt-leb k (code "9") (omega arith))
    (and_false (eqb mode 1))

-- what the code asks of a key
pub as_asked : (p : Progress) (k : ℕ) (t : Bool) → t ≡ is_key p.mode k → not_allowed p k ≡ not (is_space k || t)
as_asked p k t e = ap (λ (b : Bool). not (is_space k || b)) (sym e)

module _ (p : Progress) (t k a b : ℕ) where
  pub says_full : word_full p k ≡ true → Err (refused_for 2 a) ≡ checked p (press t k) a b
  unfolding checked
  says_full e = simp e

  pub says_not_allowed : word_full p k ≡ false → not_allowed p k ≡ true → Err (refused_for 3 a) ≡ checked p (press t k) a b
  unfolding checked
  says_not_allowed e f = simp (e, f)

  pub says_too_long : word_full p k ≡ false → not_allowed p k ≡ false → too_long p t ≡ true → Err (refused_for 11 b) ≡ checked p (press t k) a b
  unfolding checked
  says_too_long e f g = simp (e, f, g)

  pub says_fine : word_full p k ≡ false → not_allowed p k ≡ false → too_long p t ≡ false → (Ok tt) ≡ checked p (press t k) a b
  unfolding checked
  says_fine e f g = simp (e, f, g)

-- where all is fine there is room in the word, the key is a space or allowed, and the milliseconds are together below the limit
pub record IsFine (p : Progress) (x : KeyPress) : Type 0 where
  pub room : word_full p x.key ≡ false
  pub allowed : not_allowed p x.key ≡ false
  pub short : p.milliseconds + x.milliseconds < limit

faulty_fine : {A : Type 0} {r : Refusal} → ◌≡◌ {A = Result ⊤ Refusal} (Err r) (Ok tt) → A
faulty_fine e = let z : ◌≡◌ {A = ℕ} 0 1 = cc in absurd (omega arith)

by_rows : (x y z : Bool) (a b : ℕ) → checked_of (first_row (row 2 x a ∷ row 3 y a ∷ row 11 z b ∷ [])) ≡ (Ok tt) → (x ≡ false) × (y ≡ false) × (z ≡ false)
by_rows true y z a b e = faulty_fine e
by_rows false true z a b e = faulty_fine e
by_rows false false true a b e = faulty_fine e
by_rows false false false a b e = (refl, refl, refl)

module _ (p : Progress) (x : KeyPress) (a b : ℕ) where
  pub is_fine : checked p x a b ≡ (Ok tt) → IsFine p x
  unfolding checked
  is_fine e =
      let f = by_rows (word_full p x.key) (not_allowed p x.key) (too_long p x.milliseconds) a b e in
      record { room = f.0; allowed = f.1; short = leb-false limit (p.milliseconds + x.milliseconds) f.2 }

-- that does not depend on the places that a refusal would have
pub fine_anywhere : (p : Progress) (x : KeyPress) (a b c d : ℕ) → checked p x a b ≡ (Ok tt) → checked p x c d ≡ Ok tt
fine_anywhere p x a b c d e = let f = is_fine p x a b e in sym (says_fine p x.milliseconds x.key c d f.room f.allowed (lt-leb limit (p.milliseconds + x.milliseconds) f.short))

-- a key that is no space has room in its word
pub has_room : (p : Progress) (k : ℕ) → word_full p k ≡ false → (k ≡ 32 → ⊥) → p.in_word < 32
has_room p k e n = leb-false 32 p.in_word (sym (simp (ne_eqb k 32 n)) ∙ e)

-- and every key is a byte
pub is_byte : (p : Progress) (k : ℕ) → not_allowed p k ≡ false → k < 256
is_byte p k e = by (ltb k 256) refl
  where
    by : (b : Bool) → ltb k 256 ≡ b → k < 256
    by true t = ltb-true k 256 t
    by false t =
        let h = ltb-false k 256 t in
        let none : not_allowed p k ≡ true = simp (ne_eqb k 32 (λ q. omega arith), sym (over p.mode k (omega arith))) in
        let f : true ≡ false = sym none ∙ e in let z : ◌≡◌ {A = ℕ} 0 1 = cc in absurd (omega arith)
