-- Letters that a word of a mode can hold: their numbers give them back, a record's letters in range are such letters, and a key leaves them such letters.
use mathlib.Core.Path.{◌≡◌, refl, sym, ap, ap₂, subst, ◌∙◌}
use mathlib.Core.Bool.{Bool, true, false, ◌&&◌, ◌||◌}
use mathlib.Core.List.{List, [], ◌∷◌, ◌++◌, map}
use Prim.Native.Nat.{ℕ, zero, suc, ◌+◌, ◌*◌, ◌/◌, ◌%◌, ◌≤◌, ◌<◌}
use Prim.Native.Char.{code}
use native.Mathlib.Omega.{arith}
use lib.Dec.{T, eqb, eqb→eq, eqb_refl, leb, leb→le, le→leb, not_T}
use lib.Ieee.Fits.{and_i, and_l, and_r}
use Rattle.rules.specs.Letters.{Letter, Letters, plain, circumflex, breve, horn, stroke, vni, among, carries}
use Rattle.rules.specs.TheWord.{letter, number, capital_number}
use Rattle.rules.specs.KeyRoles.{is_small, is_capital, is_digit, is_key, lower_if, letter_of_key}
use Rattle.rules.specs.Refusals.{all, all_letters, base_allowed, letter_allowed, shape_carried, no_capital_digit}
use Rattle.rules.specs.LettersOfAMode.{Fine, AllFine, no_letters, and_these}
use Rattle.rules.proofs.Tests.{either, or_l, or_r}
use Rattle.rules.proofs.Edits.{Alike, end, kept, moved}

-- the capital bit of a letter's number
pub capital_bit : (n : ℕ) → n / 2048 % 2 * 2048 ≡ capital_number (letter n).capital
capital_bit n = go (n / 2048 % 2) (omega arith)
  where
    go : (b : ℕ) → b ≤ 1 → b * 2048 ≡ capital_number (eqb b 1)
    go zero h = refl
    go (suc zero) h = refl
    go (suc (suc b)) h = absurd (omega arith)

-- bases are below 256, shapes below 8
within : (lo hi b : ℕ) → T (leb lo b && leb b hi) → (lo ≤ b) × (b ≤ hi)
within lo hi b t = (leb→le lo b (and_l (leb lo b) (leb b hi) t), leb→le b hi (and_r (leb lo b) (leb b hi) t))

base_below : (mode : ℕ) (x : Letter) → T (base_allowed mode x) → x.base < 256
base_below mode x =
    either (is_small x.base) (eqb mode vni && is_digit x.base) (λ h. omega (arith, within (code "a") (code "z") x.base h))
    (λ h. omega (arith, within (code "0") (code "9") x.base (and_r (eqb mode vni) (is_digit x.base) h)))

shape_below : (sh b : ℕ) → T (carries sh b) → sh < 8
shape_below sh b =
    either (eqb sh plain) _ (λ h. omega (arith, eqb→eq sh plain h))
    (either (eqb sh circumflex && among b "aeo") _ (λ h. omega (arith, eqb→eq sh circumflex (and_l (eqb sh circumflex) (among b "aeo") h)))
    (either (eqb sh breve && among b "a") _ (λ h. omega (arith, eqb→eq sh breve (and_l (eqb sh breve) (among b "a") h)))
    (either (eqb sh horn && among b "ou") _ (λ h. omega (arith, eqb→eq sh horn (and_l (eqb sh horn) (among b "ou") h)))
    (λ h. omega (arith, eqb→eq sh stroke (and_l (eqb sh stroke) (among b "d") h))))))

-- a letter's number gives it back
letter_path : (x : Letter) (n c : ℕ) → n % 256 ≡ x.base → n / 256 % 8 ≡ x.shape → n / 2048 % 2 ≡ c → eqb c 1 ≡ x.capital → letter n ≡ x
letter_path x n c p q r e = λ i. record { base = p i; shape = q i; capital = (ap (λ (m : ℕ). eqb m 1) r ∙ e) i }

pub of_number : (b sh : ℕ) (c : Bool) → b < 256 → sh < 8 → letter (number (record { base = b; shape = sh; capital = c })) ≡ record { base = b; shape = sh; capital = c }
of_number b sh true hb hs = letter_path (record { base = b; shape = sh; capital = true }) (b + 256 * sh + 2048) 1 (omega arith) (omega arith) (omega arith) refl
of_number b sh false hb hs = letter_path (record { base = b; shape = sh; capital = false }) (b + 256 * sh + 0) 0 (omega arith) (omega arith) (omega arith) refl

pub letter_number : {mode : ℕ} {x : Letter} → Fine mode x → letter (number x) ≡ x
letter_number {mode} {x} f = of_number x.base x.shape x.capital (base_below mode x f.allowed) (shape_below x.shape x.base f.carried)

pub letters_numbers : {mode : ℕ} {xs : Letters} → AllFine mode xs → map letter (map number xs) ≡ xs
letters_numbers no_letters = refl
letters_numbers (and_these f fs) = ap₂ (λ (x : Letter) (xs : Letters). x ∷ xs) (letter_number f) (letters_numbers fs)

-- the numbers of fine letters are in range
pub record NumbersInRange (mode : ℕ) (ns : List ℕ) : Type 0 where
  pub allowed : T (all (letter_allowed mode) ns)
  pub carried : T (all_letters shape_carried ns)
  pub digit : T (all_letters no_capital_digit ns)

pub numbers_in_range : {mode : ℕ} {xs : Letters} → AllFine mode xs → NumbersInRange mode (map number xs)
numbers_in_range no_letters = record { allowed = tt; carried = tt; digit = tt }
numbers_in_range {mode} (and_these {x = x} {xs = xs} f fs) =
    let ns = map number xs in
    let m = letter (number x) in
    let e = sym (letter_number f) in
    let r = numbers_in_range fs in
    record {
      allowed = and_i (letter_allowed mode (number x)) (all (letter_allowed mode) ns) (and_i (eqb (number m) (number x)) (base_allowed mode m) (subst (λ (z : Letter). T (eqb (number z) (number x))) e (eqb_refl (number x))) (subst (λ (z : Letter). T (base_allowed mode z)) e f.allowed)) r.allowed;
      carried = and_i (shape_carried m) (all_letters shape_carried ns) (subst (λ (z : Letter). T (shape_carried z)) e f.carried) r.carried;
      digit = and_i (no_capital_digit m) (all_letters no_capital_digit ns) (subst (λ (z : Letter). T (no_capital_digit z)) e f.digit) r.digit;
    }

-- and numbers in range are read as fine letters, and written again as they were
pub fine_letters : {mode : ℕ} (ns : List ℕ) → NumbersInRange mode ns → AllFine mode (map letter ns)
fine_letters [] r = no_letters
fine_letters {mode} (n ∷ ns) r =
    and_these
    (record {
      allowed = and_r (eqb (number (letter n)) n) (base_allowed mode (letter n)) (and_l (letter_allowed mode n) (all (letter_allowed mode) ns) r.allowed);
      carried = and_l (shape_carried (letter n)) (all_letters shape_carried ns) r.carried;
      digit = and_l (no_capital_digit (letter n)) (all_letters no_capital_digit ns) r.digit;
    })
    (fine_letters ns (others n ns r))
  where
    others : (n : ℕ) (ns : List ℕ) → NumbersInRange mode (n ∷ ns) → NumbersInRange mode ns
    others n ns r =
        record {
          allowed = and_r (letter_allowed mode n) (all (letter_allowed mode) ns) r.allowed;
          carried = and_r (shape_carried (letter n)) (all_letters shape_carried ns) r.carried;
          digit = and_r (no_capital_digit (letter n)) (all_letters no_capital_digit ns) r.digit;
        }

pub numbers_letters : (mode : ℕ) (ns : List ℕ) → T (all (letter_allowed mode) ns) → map number (map letter ns) ≡ ns
numbers_letters mode [] t = refl
numbers_letters mode (n ∷ ns) t =
    ap₂ (λ (x : ℕ) (xs : List ℕ). x ∷ xs)
    (eqb→eq (number (letter n)) n (and_l (eqb (number (letter n)) n) (base_allowed mode (letter n)) (and_l (letter_allowed mode n) (all (letter_allowed mode) ns) t)))
    (numbers_letters mode ns (and_r (letter_allowed mode n) (all (letter_allowed mode) ns) t))

-- an edit leaves fine letters fine, and so does a key that is appended
pub fine_alike : {mode : ℕ} {changed : ℕ → Bool} {v w : Letters} → Alike changed v w → AllFine mode v → AllFine mode w
fine_alike end no_letters = no_letters
fine_alike (kept r) (and_these f fs) = and_these f (fine_alike r fs)
fine_alike (moved sh h c r) (and_these f fs) = and_these (record { allowed = f.allowed; carried = c; digit = f.digit }) (fine_alike r fs)

pub fine_append : {mode : ℕ} {xs : Letters} {x : Letter} → AllFine mode xs → Fine mode x → AllFine mode (xs ++ (x ∷ []))
fine_append no_letters f = and_these f no_letters
fine_append (and_these g gs) f = and_these g (fine_append gs f)

pub fine_key : (mode k : ℕ) → T (is_key mode k) → Fine mode (letter_of_key k)
fine_key mode k t = go (is_capital k) refl
  where
    go : (c : Bool) → is_capital k ≡ c → Fine mode (record { base = lower_if c k; shape = plain; capital = c })
    go true e =
        let (l, h) = within (code "A") (code "Z") k (subst T (sym e) tt) in
        record {
          allowed = or_l (is_small (k + 32)) (eqb mode vni && is_digit (k + 32)) (and_i (leb (code "a") (k + 32)) (leb (k + 32) (code "z")) (le→leb (code "a") (k + 32) (omega arith)) (le→leb (k + 32) (code "z") (omega arith)));
          carried = tt;
          digit = not_T (is_digit (k + 32) && true) (λ d. omega (arith, within (code "0") (code "9") (k + 32) (and_l (is_digit (k + 32)) true d)));
        }
    go false e =
        record {
          allowed =
              either (is_small k) (is_capital k || (eqb mode vni && is_digit k)) (λ h. or_l (is_small k) (eqb mode vni && is_digit k) h)
              (either (is_capital k) (eqb mode vni && is_digit k) (λ h. absurd (subst T e h)) (λ h. or_r (is_small k) (eqb mode vni && is_digit k) h)) t;
          carried = tt;
          digit = not_T (is_digit k && false) (λ d. and_r (is_digit k) false d);
        }
