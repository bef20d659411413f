-- Letters agree with a nucleus exactly if their digits do, and then have its base letters. Assumes nothing.
use mathlib.Core.Path.{◌≡◌, refl, sym, ap, ap₂, ◌∙◌}
use mathlib.Core.Bool.{Bool, true, false, ◌&&◌, ◌||◌}
use mathlib.Core.List.{[], ◌∷◌}
use Prim.Native.Nat.{ℕ, zero, suc, ◌+◌, ◌*◌, ◌≤◌, ◌<◌, ◌%◌, ◌/◌}
use native.Mathlib.Omega.{arith}
use lib.Dec.{T, eqb, ltb}
use lib.ListN.{length}
use lib.Ieee.Fits.{and_l, and_r}
use borrow.Author.Tests.{ne_eqb, eqb-true}
use Rattle.rules.specs.Letters.{Letter, Letters, plain}
use Rattle.rules.specs.TakingApart.{agrees_at, agrees}
use Rattle.syllable.specs.Numbers.{digit, num, more, packed, bounded, Packs, Numbers, plain_of, agree_digit}
use Rattle.rules.proofs.Tests.{is_true}
use Rattle.rules.proofs.Bools.{if_so, only, never, and_false, and_is, eqb_case}
use Rattle.syllable.proofs.PackedWords.{T-lt, Bounded, bounded_head, bounded_tail, digit_base, is_digit}

-- one letter: it is the nucleus's letter, or that letter without its shape
either : (b s p : Bool) → ((b && s) || (b && p)) ≡ (b && (p || s))
either false s p = refl
either true true true = refl
either true true false = refl
either true false true = refl
either true false false = refl

agree_digit_law : (x z : Letter) → Bounded x → Bounded z → agree_digit (digit x) (digit z) ≡ agrees_at x z
agree_digit_law x z s u =
    ap₂ ◌||◌ (sym (is_digit x z s u)) (ap (eqb (digit x)) (digit_base z u ∙ omega arith) ∙ sym (is_digit x bare s (record { base = u.base; shape = omega arith }))) ∙ either (eqb x.base z.base) (eqb x.shape z.shape) (eqb x.shape plain)
  where
    bare : Letter
    bare = record { base = z.base; shape = plain; capital = z.capital }

-- digit by digit
abbrev agree_digits : ℕ → ℕ → ℕ → Bool
agree_digits zero x z = agree_digit x z
agree_digits (suc k) x z = agree_digit (x % 4096) (z % 4096) && agree_digits k (x / 4096) (z / 4096)

-- a letter and none
one_none : (n : ℕ) → n % 2 ≡ 1 → agree_digit n 0 ≡ false
one_none n e = ap₂ ◌||◌ (ne_eqb n 0 (omega arith)) (ne_eqb n 0 (omega arith))

none_one : (n : ℕ) → n % 2 ≡ 1 → agree_digit 0 n ≡ false
none_one n e = ap₂ ◌||◌ (ne_eqb 0 n (omega arith)) (ne_eqb 0 (n % 512) (omega arith))

agree_digits_law : (k : ℕ) (v z : Letters) → T (bounded v) → T (bounded z) → length v ≤ suc k → length z ≤ suc k → agree_digits k (num v) (num z) ≡ agrees v z
agree_digits_law zero [] [] s u h l = refl
agree_digits_law (suc k) [] [] s u h l = agree_digits_law k [] [] s u (omega arith) (omega arith)
agree_digits_law zero [] (z ∷ zs) s u h l = none_one (num (z ∷ zs)) (omega arith)
agree_digits_law (suc k) [] (z ∷ zs) s u h l = ap (λ (b : Bool). b && agree_digits k 0 (num (z ∷ zs) / 4096)) (none_one (num (z ∷ zs) % 4096) (omega arith))
agree_digits_law zero (x ∷ xs) [] s u h l = one_none (num (x ∷ xs)) (omega arith)
agree_digits_law (suc k) (x ∷ xs) [] s u h l = ap (λ (b : Bool). b && agree_digits k (num (x ∷ xs) / 4096) 0) (one_none (num (x ∷ xs) % 4096) (omega arith))
agree_digits_law zero (x ∷ []) (z ∷ []) s u h l =
    let ex : num (x ∷ []) ≡ digit x = omega arith in
    let ez : num (z ∷ []) ≡ digit z = omega arith in
    ap₂ agree_digit ex ez ∙ agree_digit_law x z (bounded_head x [] s) (bounded_head z [] u) ∙ only (agrees_at x z)
agree_digits_law zero (x ∷ y ∷ ys) (z ∷ zs) s u h l = absurd (omega arith)
agree_digits_law zero (x ∷ []) (z ∷ y ∷ ys) s u h l = absurd (omega arith)
agree_digits_law (suc k) (x ∷ xs) (z ∷ zs) s u h l =
    let a = bounded_head x xs s in let b = bounded_head z zs u in
    let mx : num (x ∷ xs) % 4096 ≡ digit x = omega (arith, a) in
    let mz : num (z ∷ zs) % 4096 ≡ digit z = omega (arith, b) in
    let dx : num (x ∷ xs) / 4096 ≡ num xs = omega (arith, a) in
    let dz : num (z ∷ zs) / 4096 ≡ num zs = omega (arith, b) in
    (λ j. agree_digit (mx j) (mz j) && agree_digits k (dx j) (dz j)) ∙ ap₂ ◌&&◌ (agree_digit_law x z a b) (agree_digits_law k xs zs (bounded_tail x xs s) (bounded_tail z zs u) (omega arith) (omega arith)) ∙ and_is (agrees_at x z) (agrees xs zs)

-- more letters than the nucleus has never agree
longer : (v z : Letters) → length z < length v → agrees v z ≡ false
longer [] z h = absurd (omega arith)
longer (x ∷ xs) [] h = refl
longer (x ∷ xs) (z ∷ zs) h = ap (if_so (agrees_at x z)) (longer xs zs (omega arith)) ∙ sym (never (agrees_at x z))

short_length : (z : Letters) → num z < more → length z ≤ 3
short_length [] h = omega arith
short_length (a ∷ []) h = omega arith
short_length (a ∷ b ∷ []) h = omega arith
short_length (a ∷ b ∷ c ∷ []) h = omega arith
short_length (a ∷ b ∷ c ∷ d ∷ ds) h = absurd (omega arith)

abbrev pub agree_numbers : ℕ → ℕ → Bool
agree_numbers p q = agree_digits 2 p q

agree_packed : (v z : Letters) → T (bounded v) → T (bounded z) → num z < more → agree_numbers (packed v) (num z) ≡ agrees v z
agree_packed [] z s u h = agree_digits_law 2 [] z s u (omega arith) (short_length z h)
agree_packed (a ∷ []) z s u h = agree_digits_law 2 (a ∷ []) z s u (omega arith) (short_length z h)
agree_packed (a ∷ b ∷ []) z s u h = agree_digits_law 2 (a ∷ b ∷ []) z s u (omega arith) (short_length z h)
agree_packed (a ∷ b ∷ c ∷ []) z s u h = agree_digits_law 2 (a ∷ b ∷ c ∷ []) z s u (omega arith) (short_length z h)
agree_packed (a ∷ b ∷ c ∷ d ∷ ds) z s u h =
    let v = a ∷ b ∷ c ∷ d ∷ ds in
    let l : length z ≤ 3 = short_length z h in
    let n : agree_digit (packed v / 4096 / 4096) (num z / 4096 / 4096) ≡ false = ap₂ ◌||◌ (ne_eqb (packed v / 4096 / 4096) (num z / 4096 / 4096) (omega arith)) (ne_eqb (packed v / 4096 / 4096) (num z / 4096 / 4096 % 512) (omega arith)) in
    ap (λ (t : Bool). agree_digit (packed v % 4096) (num z % 4096) && (agree_digit (packed v / 4096 % 4096) (num z / 4096 % 4096) && t)) n ∙ sym (and_false (agree_digit (packed v % 4096) (num z % 4096)) ∙ ap (◌&&◌ (agree_digit (packed v % 4096) (num z % 4096))) (and_false (agree_digit (packed v / 4096 % 4096) (num z / 4096 % 4096)))) ∙ sym (longer v z (omega arith))

module _ {p q : ℕ} {v z : Letters} (c : Packs p v) (n : Numbers q z) where
  pub agree_is : agree_numbers p q ≡ agrees v z
  agree_is =
      ap₂ agree_numbers c.is n.is ∙ agree_packed v z c.bounded (and_l (bounded z) (ltb (num z) more) n.short) (T-lt (num z) more (and_r (bounded z) (ltb (num z) more) n.short))

-- digits that agree have the same base, and numbers that agree the same bases
base_digit : (x z : ℕ) → T (agree_digit x z) → x % 512 ≡ z % 512
base_digit x z t = eqb_case (λ b. T (b || eqb x (z % 512)) → x % 512 ≡ z % 512) x z (λ e _. ap (λ (n : ℕ). n % 512) e) (λ _ t. ap (λ (n : ℕ). n % 512) (eqb-true x (z % 512) (is_true _ t)) ∙ omega arith) t

pub bases : (p q : ℕ) → T (agree_numbers p q) → plain_of p ≡ plain_of q
bases p q t =
    let a = agree_digit (p % 4096) (q % 4096) in
    let b = agree_digit (p / 4096 % 4096) (q / 4096 % 4096) in
    let d = agree_digit (p / 4096 / 4096) (q / 4096 / 4096) in
    let first = base_digit (p % 4096) (q % 4096) (and_l a (b && d) t) in
    let second = base_digit (p / 4096 % 4096) (q / 4096 % 4096) (and_l b d (and_r a (b && d) t)) in
    let third = base_digit (p / 4096 / 4096) (q / 4096 / 4096) (and_r b d (and_r a (b && d) t)) in
    (λ j. (sym (low p) ∙ first ∙ low q) j + 4096 * ((sym (low (p / 4096)) ∙ second ∙ low (q / 4096)) j + 4096 * third j))
  where
    low : (n : ℕ) → n % 4096 % 512 ≡ n % 512
    low n = omega arith
