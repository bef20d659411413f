-- The rows of document 01's table, by the numbers of their nuclei: one computed test over the table, carried to each nucleus. Assumes nothing.
use mathlib.Core.Path.{◌≡◌, refl, sym, ap, ◌∙◌}
use mathlib.Core.Bool.{Bool, true, false, ◌&&◌, ◌||◌}
use mathlib.Core.List.{List, [], ◌∷◌}
use Prim.Native.Nat.{ℕ, suc}
use lib.Dec.{T, eqb}
use lib.ListN.{length, get_or, take, drop}
use lib.Ieee.Fits.{and_l, and_r}
use borrow.Author.Tests.{eqb-true}
use Rattle.rules.specs.Letters.{Letters, elem, one_of, is_nil}
use Rattle.rules.specs.TakingApart.{Row, rows, in_row}
use Rattle.syllable.specs.Numbers.{nums, Packs}
use Rattle.syllable.specs.Nuclei.{no_row, row_in, row_of}
use Rattle.rules.proofs.Tests.{is_true}
use Rattle.rules.proofs.Bools.{pick, and_false}
use Rattle.rules.proofs.Arms.{Passed, NoneIn, none_in}
use Rattle.syllable.proofs.PackedWords.{shorts, one_is}
use Rattle.syllable.proofs.Keys.{Key, keys, every, holds, in_arm, is_in, no_elem, is_one, no_one}

-- the place of the row that has a nucleus, by its number
abbrev pub row_number : ℕ → List Row → ℕ
row_number p [] = 0
row_number p (r ∷ rs) = elim (elem p (nums r.nuclei)) [ true ↦ 0 | false ↦ suc (row_number p rs) ]

abbrev short_rows : List Row → Bool
short_rows [] = true
short_rows (r ∷ rs) = shorts r.nuclei && short_rows rs

number_is : {p : ℕ} {v : Letters} → Packs p v → (rs : List Row) → T (short_rows rs) → row_in v rs ≡ get_or rs (row_number p rs) no_row
number_is c [] t = refl
number_is {p} {v} c (r ∷ rs) t =
    ap (λ (b : Bool). pick r b (row_in v rs)) (sym (one_is c r.nuclei (and_l (shorts r.nuclei) (short_rows rs) t))) ∙ go (elem p (nums r.nuclei)) (number_is c rs (and_r (shorts r.nuclei) (short_rows rs) t))
  where
    go : (b : Bool) → row_in v rs ≡ get_or rs (row_number p rs) no_row → pick r b (row_in v rs) ≡ get_or (r ∷ rs) (pick 0 b (suc (row_number p rs))) no_row
    go true e = refl
    go false e = e

abbrev pub row : ℕ → Row
row i = get_or rows i no_row

pub row_is : {p : ℕ} {v : Letters} → Packs p v → (i : ℕ) → row_number p rows ≡ i → row_of v ≡ row i
unfolding row_of
row_is c i e = number_is c rows tt ∙ ap row e

-- a number stands in this row
abbrev pub stands_in : ℕ → ℕ → Bool
stands_in i k = eqb (row_number k rows) i

-- the nuclei of each arm of the table; the last row has four
abbrev arms : List (List ℕ)
arms =
    keys (row 0).nuclei ∷
    keys (row 1).nuclei ∷
    keys (row 2).nuclei ∷
    keys (row 3).nuclei ∷
    keys (row 4).nuclei ∷
    keys (row 5).nuclei ∷
    keys (row 6).nuclei ∷
    keys (take 10 (row 7).nuclei) ∷
    keys (take 8 (drop 10 (row 7).nuclei)) ∷
    keys (take 8 (drop 18 (row 7).nuclei)) ∷
    keys (drop 26 (row 7).nuclei) ∷
    []

abbrev pub arm : ℕ → List ℕ
arm k = get_or arms k []

-- a number that is in no row
abbrev armed : List Row → Bool
armed [] = true
armed (r ∷ rs) = every (in_arm arms) (nums r.nuclei) && armed rs

none_of : (p : ℕ) (rs : List Row) → T (armed rs) → NoneIn (Key p) arms → row_number p rs ≡ length rs
none_of p [] t h = refl
none_of p (r ∷ rs) t h =
    λ j. pick 0 (sym (no_elem p (nums r.nuclei) arms (and_l (every (in_arm arms) (nums r.nuclei)) (armed rs) t) h) j) (suc (none_of p rs (and_r (every (in_arm arms) (nums r.nuclei)) (armed rs) t) h j))

-- a row's finals as words, none first where its nuclei stand open
abbrev pub endings : Row → List Letters
endings r = elim r.bare [ true ↦ [] ∷ r.ends | false ↦ r.ends ]

endings_are : (f : Letters) (r : Row) → one_of f (endings r) ≡ in_row r f
endings_are f r = go r.bare f
  where
    go : (b : Bool) (u : Letters) → one_of u (elim b [ true ↦ [] ∷ r.ends | false ↦ r.ends ]) ≡ ((is_nil u && b) || one_of u r.ends)
    go true [] = refl
    go true (x ∷ xs) = refl
    go false [] = refl
    go false (x ∷ xs) = refl

-- the two matches of the table
module _ {p q : ℕ} {v f : Letters} (n : Packs p v) (e : Packs q f) where
  module _ (i : ℕ) (ks : List ℕ) (t : T (every (stands_in i) ks)) (h : Key p ks) (s : T (shorts (endings (row i)))) where
    in_row_law : one_of f (endings (row i)) ≡ in_row (row_of v) f
    in_row_law = endings_are f (row i) ∙ ap (λ (r : Row). in_row r f) (sym (row_is n i (eqb-true (row_number p rows) i (is_true _ (holds (stands_in i) p ks t h)))))

    pub takes_it : T (every (is_in (nums (endings (row i)))) (keys (endings (row i)))) → Key q (keys (endings (row i))) → true ≡ in_row (row_of v) f
    takes_it u k = is_one e (endings (row i)) s (keys (endings (row i))) u k ∙ in_row_law

    pub leaves_it : T (every (in_arm (keys (endings (row i)) ∷ [])) (nums (endings (row i)))) → Passed (Key q) (Unit {0}) (keys (endings (row i)) ∷ []) → false ≡ in_row (row_of v) f
    leaves_it u k = no_one e (endings (row i)) s (keys (endings (row i)) ∷ []) u (none_in (Key q) (Unit {0}) (keys (endings (row i)) ∷ []) k) ∙ in_row_law

    pub opens : elem q (nums (endings (row i))) ≡ in_row (row_of v) f
    opens = one_is e (endings (row i)) s ∙ in_row_law

  pub unlisted : Passed (Key p) (Unit {0}) arms → false ≡ in_row (row_of v) f
  unlisted h = (λ j. and_false (is_nil f) j || false) ∙ ap (λ (r : Row). in_row r f) (sym (row_is n 8 (none_of p rows tt (none_in (Key p) (Unit {0}) arms h))))
