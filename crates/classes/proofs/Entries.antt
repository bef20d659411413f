-- The rule of the table, by one test over its 26 entries: each is the class of its letter. What is no letter a to z is of no class, by one over the bytes.
use mathlib.Core.Path.{◌≡◌, refl, sym, ap, ◌∙◌}
use mathlib.Core.Bool.{Bool, true, false, not, ◌||◌}
use mathlib.Core.List.{List, [], ◌∷◌}
use Prim.Native.Nat.{ℕ, ◌+◌, ◌<◌}
use Prim.Native.Char.{code}
use lib.Dec.{T, eqb, eqb→eq, ltb, ltb→lt}
use lib.Bits.{bit_and}
use lib.ListN.{get_or}
use Rattle.rules.specs.Letters.{elem, characters}
use Rattle.rules.proofs.Tests.{either}
use Rattle.rules.proofs.Tables.{each, entry, each_below, below}
use Rattle.rules.proofs.Arms.{NoneOf, none_elem}
use Rattle.classes.specs.LetterClasses.{Class, class_of, marks_of}

abbrev pub alphabet : List ℕ
alphabet = characters "abcdefghijklmnopqrstuvwxyz"

-- the entries, a to z
abbrev table : List ℕ
table =
    1 ∷ 2 ∷ 14 ∷ 2 ∷ 1 ∷ 0 ∷ 2 ∷ 2 ∷ 1 ∷ 0 ∷ 2 ∷ 2 ∷ 6 ∷
    6 ∷ 1 ∷ 14 ∷ 0 ∷ 2 ∷ 2 ∷ 14 ∷ 1 ∷ 2 ∷ 0 ∷ 2 ∷ 1 ∷ 0 ∷ []

abbrev right : ℕ → ℕ → Bool
right k n = eqb n (marks_of (class_of (code "a" + k)))

all_right : T (each right table)
all_right = tt

pub at : (k : ℕ) {b : ℕ} → T (ltb k 26) → b ≡ code "a" + k → get_or table k 0 ≡ marks_of (class_of b)
at k t e = eqb→eq (get_or table k 0) (marks_of (class_of (code "a" + k))) (entry right table all_right k (ltb→lt k 26 t)) ∙ ap (λ (n : ℕ). marks_of (class_of n)) (sym e)

-- no letter a to z
abbrev letter_or_none : ℕ → Bool
letter_or_none b = elem b alphabet || eqb 0 (marks_of (class_of b))

none_outside : T (each_below letter_or_none 256)
none_outside = tt

pub no_class : (b : ℕ) → b < 256 → NoneOf b alphabet → 0 ≡ marks_of (class_of b)
no_class b h n = either (elem b alphabet) (eqb 0 (marks_of (class_of b))) (λ t. absurd (none_elem b alphabet n t)) (eqb→eq 0 (marks_of (class_of b))) (below letter_or_none 256 none_outside b h)

-- a class has a mark exactly if its number has it
abbrev has : ℕ → ℕ → Bool
has m n = not (eqb (bit_and n m) 0)

pub record Marked (n : ℕ) (c : Class) : Type 0 where
  pub vowel : has 1 n ≡ c.is_vowel
  pub initial : has 2 n ≡ c.is_initial
  pub final : has 4 n ≡ c.is_final
  pub stop : has 8 n ≡ c.is_stop

abbrev summed : Bool → Bool → Bool → Bool → ℕ
summed v i f s = marks_of (record { is_vowel = v; is_initial = i; is_final = f; is_stop = s })

pub marked : (c : Class) {n : ℕ} → n ≡ marks_of c → Marked n c
marked c e =
    let m = go c.is_vowel c.is_initial c.is_final c.is_stop in
    record { vowel = ap (has 1) e ∙ m.0; initial = ap (has 2) e ∙ m.1; final = ap (has 4) e ∙ m.2; stop = ap (has 8) e ∙ m.3 }
  where
    go : (v i f s : Bool) → (has 1 (summed v i f s) ≡ v) × (has 2 (summed v i f s) ≡ i) × (has 4 (summed v i f s) ≡ f) × (has 8 (summed v i f s) ≡ s)
    go true true true true = (refl, refl, refl, refl)
    go true true true false = (refl, refl, refl, refl)
    go true true false true = (refl, refl, refl, refl)
    go true true false false = (refl, refl, refl, refl)
    go true false true true = (refl, refl, refl, refl)
    go true false true false = (refl, refl, refl, refl)
    go true false false true = (refl, refl, refl, refl)
    go true false false false = (refl, refl, refl, refl)
    go false true true true = (refl, refl, refl, refl)
    go false true true false = (refl, refl, refl, refl)
    go false true false true = (refl, refl, refl, refl)
    go false true false false = (refl, refl, refl, refl)
    go false false true true = (refl, refl, refl, refl)
    go false false true false = (refl, refl, refl, refl)
    go false false false true = (refl, refl, refl, refl)
    go false false false false = (refl, refl, refl, refl)
