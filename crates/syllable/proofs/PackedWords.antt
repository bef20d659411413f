-- Letters have the same code exactly if they are the same letters, in either case; so a table of words is a table of numbers. Assumes nothing.
use mathlib.Core.Path.{◌≡◌, refl, sym, ap, ap₂, subst, ◌∙◌}
use mathlib.Core.Bool.{Bool, true, false, ◌&&◌}
use mathlib.Core.List.{List, [], ◌∷◌, map}
use Prim.Native.Nat.{ℕ, zero, suc, ◌+◌, ◌*◌, ◌≤◌, ◌<◌, ◌%◌, ◌/◌}
use native.Mathlib.Omega.{arith}
use lib.Dec.{T, eqb, leb, ltb}
use lib.ListN.{length, get_or}
use lib.Ieee.Fits.{and_l, and_r}
use borrow.Author.Tests.{eq-eqb, ne_eqb, ltb-true, lt-ltb, lt-leb, le-leb}
use Rattle.rules.specs.Letters.{Letter, Letters, elem, word, is, same, one_of, is_nil, first_base}
use Rattle.rules.specs.TakingApart.{two_or_more}
use Rattle.rules.specs.TheWord.{letter}
use Rattle.syllable.specs.Numbers.{digit, digit_at, num, nums, more, packed, bounded, Packs, short, Numbers}
use Rattle.rules.proofs.Tests.{is_true}
use Rattle.rules.proofs.Bools.{pick, if_so, only, or_is, eqb_case}

pub T-lt : (a b : ℕ) → T (ltb a b) → a < b
T-lt a b t = ltb-true a b (is_true (ltb a b) t)

-- a small letter, and small letters
pub record Bounded (x : Letter) : Type 0 where
  pub base : x.base < 256
  pub shape : x.shape < 8

pub bounded_head : (x : Letter) (xs : Letters) → T (bounded (x ∷ xs)) → Bounded x
bounded_head x xs t =
    let h = and_l (ltb x.base 256 && ltb x.shape 8) (bounded xs) t in
    record { base = T-lt _ _ (and_l (ltb x.base 256) (ltb x.shape 8) h); shape = T-lt _ _ (and_r (ltb x.base 256) (ltb x.shape 8) h) }

pub bounded_tail : (x : Letter) (xs : Letters) → T (bounded (x ∷ xs)) → T (bounded xs)
bounded_tail x xs t = and_r (ltb x.base 256 && ltb x.shape 8) (bounded xs) t

-- letters read off numbers are small
pub bounded_letters : (s : List ℕ) → T (bounded (map letter s))
bounded_letters [] = tt
bounded_letters (n ∷ ns) = rw (lt-ltb (n % 256) 256 (omega arith), lt-ltb (n / 256 % 8) 8 (omega arith)) (bounded_letters ns)

-- a part of a word, by its numbers
pub packs : {p : ℕ} {w : Letters} (ns : List ℕ) → p ≡ packed (map letter ns) → map letter ns ≡ w → Packs p w
packs ns e are = record { is = e ∙ ap packed are; bounded = subst (λ (l : Letters). T (bounded l)) are (bounded_letters ns) }

-- one letter, and one more
pub digit_lt : (x : Letter) → Bounded x → digit x < 4096
digit_lt x s = omega (arith, s.base, s.shape)

pub digit_base : (x : Letter) → Bounded x → digit x % 512 ≡ 2 * x.base + 1
digit_base x s = omega (arith, s.base)

pub digit_shape : (x : Letter) → Bounded x → digit x / 512 ≡ x.shape
digit_shape x s = omega (arith, s.base)

pub is_digit : (x z : Letter) → Bounded x → Bounded z → is x z ≡ eqb (digit x) (digit z)
is_digit x z s u =
    eqb_case (λ t. is x z ≡ t) (digit x) (digit z)
    (λ e. let b : x.base ≡ z.base = omega (arith, digit_base x s, digit_base z u, ap (λ (n : ℕ). n % 512) e) in
    let h : x.shape ≡ z.shape = sym (digit_shape x s) ∙ ap (λ (n : ℕ). n / 512) e ∙ digit_shape z u in
    simp (eq-eqb x.base z.base b, eq-eqb x.shape z.shape h))
    (λ n. eqb_case (λ t. (t && eqb x.shape z.shape) ≡ false) x.base z.base (λ e. ne_eqb x.shape z.shape (λ f. n (omega arith))) (λ _. refl))

digit_more : (d e p q : ℕ) → d < 4096 → e < 4096 → if_so (eqb d e) (eqb p q) ≡ eqb (d + 4096 * p) (e + 4096 * q)
digit_more d e p q hd he =
    eqb_case (λ t. if_so t (eqb p q) ≡ eqb (d + 4096 * p) (e + 4096 * q)) d e
    (λ s. eqb_case (λ t. t ≡ eqb (d + 4096 * p) (e + 4096 * q)) p q (λ f. sym (eq-eqb (d + 4096 * p) (e + 4096 * q) (omega arith))) (λ n. sym (ne_eqb (d + 4096 * p) (e + 4096 * q) (λ f. n (omega arith)))))
    (λ n. sym (ne_eqb (d + 4096 * p) (e + 4096 * q) (λ f. n (omega arith))))

same_num : (w z : Letters) → T (bounded w) → T (bounded z) → same w z ≡ eqb (num w) (num z)
same_num [] [] s u = refl
same_num [] (z ∷ zs) s u = sym (ne_eqb 0 (num (z ∷ zs)) (omega arith))
same_num (x ∷ xs) [] s u = sym (ne_eqb (num (x ∷ xs)) 0 (omega arith))
same_num (x ∷ xs) (z ∷ zs) s u =
    let a = bounded_head x xs s in let b = bounded_head z zs u in
    ap₂ if_so (is_digit x z a b) (same_num xs zs (bounded_tail x xs s) (bounded_tail z zs u)) ∙ digit_more (digit x) (digit z) (num xs) (num zs) (digit_lt x a) (digit_lt z b)

same_packed : (w z : Letters) → T (bounded w) → T (short z) → same w z ≡ eqb (packed w) (num z)
same_packed [] z s u = same_num [] z s (and_l (bounded z) (ltb (num z) more) u)
same_packed (a ∷ []) z s u = same_num (a ∷ []) z s (and_l (bounded z) (ltb (num z) more) u)
same_packed (a ∷ b ∷ []) z s u = same_num (a ∷ b ∷ []) z s (and_l (bounded z) (ltb (num z) more) u)
same_packed (a ∷ b ∷ c ∷ []) z s u = same_num (a ∷ b ∷ c ∷ []) z s (and_l (bounded z) (ltb (num z) more) u)
same_packed (a ∷ b ∷ c ∷ d ∷ ds) z s u =
    let l : num z < more = T-lt (num z) more (and_r (bounded z) (ltb (num z) more) u) in
    same_num (a ∷ b ∷ c ∷ d ∷ ds) z s (and_l (bounded z) (ltb (num z) more) u) ∙ ne_eqb (num (a ∷ b ∷ c ∷ d ∷ ds)) (num z) (omega arith) ∙ sym (ne_eqb (packed (a ∷ b ∷ c ∷ d ∷ ds)) (num z) (omega arith))

packed_num : (z : Letters) → T (short z) → num z ≡ packed z
packed_num [] u = refl
packed_num (a ∷ []) u = refl
packed_num (a ∷ b ∷ []) u = refl
packed_num (a ∷ b ∷ c ∷ []) u = refl
packed_num (a ∷ b ∷ c ∷ d ∷ ds) u =
    let w = a ∷ b ∷ c ∷ d ∷ ds in let l : num w < more = T-lt (num w) more (and_r (bounded w) (ltb (num w) more) u) in absurd (omega arith)

-- a table's word has its number for a code
pub table_packs : {p : ℕ} {z : Letters} → Numbers p z → Packs p z
table_packs {z = z} n = record { is = n.is ∙ packed_num z n.short; bounded = and_l (bounded z) (ltb (num z) more) n.short }

abbrev pub shorts : List Letters → Bool
shorts [] = true
shorts (z ∷ zs) = short z && shorts zs

-- what the code asks of a number is what the rules ask of its letters
module _ {p : ℕ} {w : Letters} (c : Packs p w) where
  pub same_is : (z : Letters) → T (short z) → eqb p (num z) ≡ same w z
  same_is z u = ap (λ (n : ℕ). eqb n (num z)) c.is ∙ sym (same_packed w z c.bounded u)

  pub one_is : (zs : List Letters) → T (shorts zs) → elem p (nums zs) ≡ one_of w zs
  one_is [] u = refl
  one_is (z ∷ []) u = same_is z (and_l (short z) true u) ∙ only (same w z)
  one_is (z ∷ y ∷ ys) u =
      sym (or_is (eqb p (num z)) (elem p (nums (y ∷ ys)))) ∙ ap₂ (pick true) (same_is z (and_l (short z) (shorts (y ∷ ys)) u)) (one_is (y ∷ ys) (and_r (short z) (shorts (y ∷ ys)) u))

  pub none_is : eqb p 0 ≡ is_nil w
  none_is = same_is [] tt ∙ go w
    where
      go : (v : Letters) → same v [] ≡ is_nil v
      go [] = refl
      go (x ∷ xs) = refl

-- a number's lowest digit is its first letter, and a higher one says that there are two or more
abbrev first_of : Letters → ℕ
first_of [] = 0
first_of (x ∷ xs) = 2 * x.base + 1

first_digit : (w : Letters) → T (bounded w) → packed w % 512 ≡ first_of w
first_digit [] s = refl
first_digit (a ∷ []) s = omega (arith, (bounded_head a [] s).base)
first_digit (a ∷ b ∷ []) s = omega (arith, (bounded_head a (b ∷ []) s).base)
first_digit (a ∷ b ∷ c ∷ []) s = omega (arith, (bounded_head a (b ∷ c ∷ []) s).base)
first_digit (a ∷ b ∷ c ∷ d ∷ ds) s = omega (arith, (bounded_head a (b ∷ c ∷ d ∷ ds) s).base)

two_digits : (w : Letters) → T (bounded w) → leb 4096 (packed w) ≡ two_or_more w
two_digits [] s = refl
two_digits (a ∷ []) s = lt-leb 4096 (packed (a ∷ [])) (omega (arith, digit_lt a (bounded_head a [] s)))
two_digits (a ∷ b ∷ []) s = le-leb 4096 (packed (a ∷ b ∷ [])) (omega arith)
two_digits (a ∷ b ∷ c ∷ []) s = le-leb 4096 (packed (a ∷ b ∷ c ∷ [])) (omega arith)
two_digits (a ∷ b ∷ c ∷ d ∷ ds) s = le-leb 4096 (packed (a ∷ b ∷ c ∷ d ∷ ds)) (omega arith)

halved : (w : Letters) → first_of w / 2 ≡ first_base w
halved [] = refl
halved (x ∷ xs) = omega arith

is_o : (w : Letters) → eqb (first_of w) (num (word "o")) ≡ eqb (first_base w) (first_base (word "o"))
is_o w =
    eqb_case (λ t. t ≡ eqb (first_base w) (first_base (word "o"))) (first_of w) (num (word "o")) (λ e. sym (eq-eqb (first_base w) (first_base (word "o")) (omega (arith, halved w))))
    (λ n. sym (ne_eqb (first_base w) (first_base (word "o")) (λ e. n (go w e))))
  where
    go : (v : Letters) → first_base v ≡ first_base (word "o") → first_of v ≡ num (word "o")
    go [] e = absurd (omega arith)
    go (x ∷ xs) e = omega arith

module _ {p : ℕ} {w : Letters} (c : Packs p w) where
  pub first_is : p % 512 / 2 ≡ first_base w
  first_is = ap (λ (n : ℕ). n % 512 / 2) c.is ∙ ap (λ (n : ℕ). n / 2) (first_digit w c.bounded) ∙ halved w

  pub begins_o : (leb 4096 p && eqb (p % 512) (num (word "o"))) ≡ (two_or_more w && eqb (first_base w) (first_base (word "o")))
  begins_o =
      ap (λ (n : ℕ). leb 4096 n && eqb (n % 512) (num (word "o"))) c.is ∙ ap₂ ◌&&◌ (two_digits w c.bounded) (ap (λ (n : ℕ). eqb n (num (word "o"))) (first_digit w c.bounded) ∙ is_o w)

-- the number by its digits
pub digits_short : (w : Letters) → length w ≤ 3 → digit_at 0 w + 4096 * (digit_at 1 w + 4096 * digit_at 2 w) ≡ packed w
digits_short [] h = refl
digits_short (a ∷ []) h = omega arith
digits_short (a ∷ b ∷ []) h = omega arith
digits_short (a ∷ b ∷ c ∷ []) h = omega arith
digits_short (a ∷ b ∷ c ∷ d ∷ ds) h = absurd (omega arith)

pub digits_long : (w : Letters) → 3 < length w → digit_at 0 w + 4096 * (digit_at 1 w + 4096 * digit_at 2 w) + more ≡ packed w
digits_long [] h = absurd (omega arith)
digits_long (a ∷ []) h = absurd (omega arith)
digits_long (a ∷ b ∷ []) h = absurd (omega arith)
digits_long (a ∷ b ∷ c ∷ []) h = absurd (omega arith)
digits_long (a ∷ b ∷ c ∷ d ∷ ds) h = omega arith

pub digit_here : (s : List ℕ) (i : ℕ) → i < length s → 2 * (get_or s i 0 % 2048) + 1 ≡ digit_at i (map letter s)
digit_here [] i h = absurd (omega arith)
digit_here (n ∷ ns) zero h = omega arith
digit_here (n ∷ ns) (suc i) h = digit_here ns i (omega arith)

pub digit_past : (s : List ℕ) (i : ℕ) → length s ≤ i → 0 ≡ digit_at i (map letter s)
digit_past [] i h = refl
digit_past (n ∷ ns) zero h = absurd (omega arith)
digit_past (n ∷ ns) (suc i) h = digit_past ns i (omega arith)
