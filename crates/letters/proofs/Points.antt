-- The rule of the table of code points, at each entry; and the code point of a letter by its row.
use mathlib.Core.Path.{◌≡◌, refl, sym, ap, ap₂, ◌∙◌}
use mathlib.Core.Bool.{Bool, true, false, not, ◌&&◌, ◌||◌, beq}
use mathlib.Core.List.{List, [], ◌∷◌, map}
use Prim.Native.Nat.{ℕ, zero, suc, ◌+◌, ◌*◌, ◌≤◌, ◌<◌, ◌/◌, ◌%◌}
use native.Mathlib.Nat.{le_of_suc-le-suc, not-suc-le-zero, mod-eq_of_lt, div-div-eq-div-mul}
use native.Mathlib.Omega.{arith}
use lib.Dec.{T, eqb, eqb→eq, leb, leb→le, ltb, ltb→lt}
use lib.ListN.{length, get_or}
use borrow.Author.Tests.{eqb-true}
use lib.Ieee.Fits.{and_l, and_r}
use Rattle.rules.specs.Letters.{Letter, is, small, carries}
use Rattle.rules.specs.TakingApart.{vowel}
use Rattle.rules.specs.TheWord.{letter}
use Rattle.rules.specs.KeyRoles.{is_small, is_digit}
use Rattle.rules.specs.CodePoints.{Vowel, vowels, Sign, small_point, capital_point, point}
use Rattle.letters.specs.Alphabet.{in_alphabet}
use Rattle.letters.specs.Rows.{point_table, vowel_row_in, vowel_row, points_in, points_of, letter_of, sign_of}
use Rattle.keys.proofs.Bools.{either, same_bool}
use Rattle.rules.proofs.Arms.{NoneOf}
use Rattle.rules.proofs.Tables.{each, entry, each_below, below}

-- The k-th entry is the code point of its row and tone; it is that letter's of the alphabet, and so is its capital's.
abbrev names : Sign → ℕ → Bool
names s p = in_alphabet s && eqb (point s) p

abbrev right : ℕ → ℕ → Bool
right k p =
    eqb p (get_or (points_of (k / 6)) (k % 6) 0) && (leb 32 p && (names (sign_of false k) p && names (sign_of true k) (capital_point p)))

pub record Names (s : Sign) (p : ℕ) : Type 0 where
  pub known : T (in_alphabet s)
  pub point_is : point s ≡ p

pub record Right (k p : ℕ) : Type 0 where
  pub point_is : p ≡ get_or (points_of (k / 6)) (k % 6) 0
  pub above : 32 ≤ p
  pub small : Names (sign_of false k) p
  pub capital : Names (sign_of true k) (capital_point p)

named : (s : Sign) (p : ℕ) → T (names s p) → Names s p
named s p t = record { known = and_l (in_alphabet s) (eqb (point s) p) t; point_is = eqb→eq (point s) p (and_r (in_alphabet s) (eqb (point s) p) t) }

right_all : T (each right point_table)
unfolding point_table points_of letter_of in_alphabet
right_all = tt

pub right_at : (k : ℕ) → k < 72 → Right k (get_or point_table k 0)
unfolding point_table
right_at k h = go (get_or point_table k 0) (entry right point_table right_all k h)
  where
    go : (p : ℕ) → T (right k p) → Right k p
    go p u =
        record {
          point_is = eqb→eq p (get_or (points_of (k / 6)) (k % 6) 0) (search and_l);
          above = leb→le 32 p (search (and_l, and_r));
          small = named (sign_of false k) p (search (and_l, and_r));
          capital = named (sign_of true k) (capital_point p) (search and_r);
        }

-- The code's table, whose rows are those of the definition, as both compute; and each entry of it.
abbrev pub rows : List (List ℕ)
rows = map (λ (v : Vowel). v.points) vowels

row_is : (vs : List Vowel) (r : ℕ) → get_or (map (λ (v : Vowel). v.points) vs) r [] ≡ points_in vs r
row_is [] r = refl
row_is (v ∷ vs) zero = refl
row_is (v ∷ vs) (suc r) = row_is vs r

abbrev pub entry_at : ℕ → ℕ → ℕ
entry_at r t = get_or (get_or rows r []) t 0

module _ (r t : ℕ) (h : r < 12) (l : t < 6) where
  row_entry : entry_at r t ≡ get_or (points_of r) t 0
  unfolding points_of
  row_entry = ap (λ (ps : List ℕ). get_or ps t 0) (row_is vowels r)

  pub flat_entry : entry_at r t ≡ get_or point_table (r * 6 + t) 0
  flat_entry =
      let d : (r * 6 + t) / 6 ≡ r = omega arith in
      let m : (r * 6 + t) % 6 ≡ t = omega arith in
      row_entry ∙ sym ((right_at (r * 6 + t) (omega arith)).point_is ∙ ap₂ (λ (i j : ℕ). get_or (points_of i) j 0) d m)

  pub at_row : (entry_at r t ≡ get_or (points_of r) t 0) × (32 ≤ entry_at r t)
  at_row = (row_entry, rw flat_entry ((right_at (r * 6 + t) (omega arith)).above))

-- The code point of a letter with a row is its row's, of any other that of no vowel.
pub in_row_law : (vs : List Vowel) (x : Letter) (t : ℕ) → vowel_row_in vs x < length vs → small_point vs x t ≡ get_or (points_in vs (vowel_row_in vs x)) t 0
in_row_law [] x t h = absurd (not-suc-le-zero h)
in_row_law (v ∷ vs) x t h = go (is x v.letter) h (in_row_law vs x t)
  where
    go : (b : Bool) → elim b [ true ↦ 0 | false ↦ suc (vowel_row_in vs x) ] < length (v ∷ vs) → (vowel_row_in vs x < length vs → small_point vs x t ≡ get_or (points_in vs (vowel_row_in vs x)) t 0)
        → elim b [ true ↦ get_or v.points t 0 | false ↦ small_point vs x t ] ≡ get_or (points_in (v ∷ vs) (elim b [ true ↦ 0 | false ↦ suc (vowel_row_in vs x) ])) t 0
    go true l e = refl
    go false l e = e (le_of_suc-le-suc l)

pub in_no_row : (vs : List Vowel) (x : Letter) (t : ℕ) → length vs ≤ vowel_row_in vs x → small_point vs x t ≡ small_point [] x t
in_no_row [] x t h = refl
in_no_row (v ∷ vs) x t h = go (is x v.letter) h (in_no_row vs x t)
  where
    go : (b : Bool) → length (v ∷ vs) ≤ elim b [ true ↦ 0 | false ↦ suc (vowel_row_in vs x) ] → (length vs ≤ vowel_row_in vs x → small_point vs x t ≡ small_point [] x t)
        → elim b [ true ↦ get_or v.points t 0 | false ↦ small_point vs x t ] ≡ small_point [] x t
    go true l e = absurd (not-suc-le-zero l)
    go false l e = e (le_of_suc-le-suc l)

-- A letter that carries its shape has a row exactly where its base is a vowel, and a code point in each tone: computed over each base and shape.
abbrev letter_there : ℕ → ℕ → Bool
letter_there sh b = (is_small b || is_digit b) && carries sh b

abbrev point_there : ℕ → ℕ → ℕ → Bool
point_there sh b t = ltb 32 (small_point vowels (small b sh) t)

abbrev standing : ℕ → ℕ → Bool
standing sh b = beq (vowel b) (ltb (vowel_row (small b sh)) 12) && (leb 32 b && each_below (point_there sh b) 6)

abbrev rowed : ℕ → ℕ → Bool
rowed sh b = not (letter_there sh b) || standing sh b

abbrev rowed_all : ℕ → Bool
rowed_all sh = each_below (rowed sh) 256

rowed_all_law : T (each_below rowed_all 8)
unfolding vowel_row
rowed_all_law = tt

pub record Rowed (n : ℕ) : Type 0 where
  pub vowel_is : vowel (letter n).base ≡ ltb (vowel_row (letter n)) 12
  pub above : 32 ≤ n % 256
  pub points : (t : ℕ) → t < 6 → 32 < small_point vowels (letter n) t

pub rowed_at : (n : ℕ) → (is_small (letter n).base || is_digit (letter n).base) && carries (letter n).shape (letter n).base ≡ true → Rowed n
unfolding vowel_row
rowed_at n e =
    let sh : ℕ = n / 256 % 8 in
    let b : ℕ = n % 256 in
    let t : T (standing sh b) = either (letter_there sh b) (standing sh b) (below (rowed sh) 256 (below rowed_all 8 rowed_all_law sh (omega arith)) b (omega arith)) e in
    record {
      vowel_is = same_bool (vowel b) (ltb (vowel_row (letter n)) 12) (search and_l);
      above = leb→le 32 b (search (and_l, and_r));
      points = λ u h. ltb→lt 32 (small_point vowels (letter n) u) (below (point_there sh b) 6 (search and_r) u h);
    }

-- The number of the small letter is its base and 256 times its shape, so a capital has its small letter's row.
pub small_number : (n : ℕ) → n % 2048 ≡ 256 * (n / 256 % 8) + n % 256
small_number n = omega (arith, div-div-eq-div-mul n 256 8)

shape_of : (x sh b : ℕ) → x ≡ 256 * sh + b → sh < 8 → b < 256 → x / 256 % 8 ≡ sh
shape_of x sh b e h l =
    let d : x / 256 ≡ sh = omega arith in
    rw d (mod-eq_of_lt h)

pub small_row : (n : ℕ) → vowel_row (letter (n % 2048)) ≡ vowel_row (letter n)
unfolding vowel_row
small_row n =
    let e : n % 2048 % 256 ≡ n % 256 = omega arith in
    ap₂ (λ (b sh : ℕ). vowel_row_in vowels (small b sh)) e (shape_of (n % 2048) (n / 256 % 8) (n % 256) (small_number n) (omega arith) (omega arith))

-- A number below 2048 that is none of the vowels' has no row.
abbrev pub numbers : List Vowel → List ℕ
numbers [] = []
numbers (v ∷ vs) = (v.letter.base + 256 * v.letter.shape) ∷ numbers vs

pub no_row_law : (n : ℕ) (vs : List Vowel) → n < 2048 → NoneOf n (numbers vs) → length vs ≡ vowel_row_in vs (letter n)
no_row_law n [] l h = refl
no_row_law n (v ∷ vs) l h = go (eqb (n % 256) v.letter.base) (eqb (n / 256 % 8) v.letter.shape) refl refl (no_row_law n vs l h.1)
  where
    go : (p q : Bool) → eqb (n % 256) v.letter.base ≡ p → eqb (n / 256 % 8) v.letter.shape ≡ q → length vs ≡ vowel_row_in vs (letter n)
        → length (v ∷ vs) ≡ elim (p && q) [ true ↦ 0 | false ↦ suc (vowel_row_in vs (letter n)) ]
    go true true b s e = absurd (h.0 (omega (arith, small_number n, eqb-true)))
    go true false b s e = ap suc e
    go false q b s e = ap suc e
