-- One to three bytes decoded: when the bytes are in range, and what is then looked up.
use Rattle.std.specs.Prelude.{Some, None}
use mathlib.Core.Path.{◌≡◌, sym, ap, ap₂, ◌∙◌}
use mathlib.Core.Bool.{Bool, true, false, ◌&&◌}
use Prim.Native.Nat.{ℕ, ◌<◌, ◌≤◌}
use lib.Dec.{leb, ltb}
use borrow.Author.Tests.{leb-true, ltb-true, le-leb, lt-leb}
use Rattle.rules.specs.Letters.{telex, no_tone}
use Rattle.rules.specs.TheWord.{number}
use Rattle.rules.specs.KeyRoles.{is_key, letter_of_key}
use Rattle.rules.specs.CodePoints.{sign}
use Rattle.rules.specs.Speller.{Front, no_letter, a_letter}
use Rattle.letters.specs.Decoding.{found, follows_on, Follows, one_byte, least_lead, InTwo, point_of_two, two_bytes, least_point, InThree, point_of_three, three_bytes, read_as}
use Rattle.keys.proofs.Bools.{first, second}

abbrev only : Front → Bool → Front
only f b = elim b [ true ↦ f | false ↦ no_letter ]

-- a test that the code made of a callee's answer is the definition's test
tested : (p : Bool) {r q b : Bool} → r ≡ q → p && r ≡ b → p && q ≡ b
tested p e d = ap (λ (x : Bool). p && x) (sym e) ∙ d

-- one byte
module _ {r : Bool} (a : ℕ) (e : r ≡ is_key telex a) where
  pub is_one : {x : ℕ} → r ≡ true → x ≡ number (letter_of_key a) → Some (record { number = x; tone = 0; length = 1 }) ≡ read_as 1 (one_byte a)
  is_one t d = ap (λ (m : ℕ). Some (record { number = m; tone = 0; length = 1 })) d ∙ sym (ap (λ (b : Bool). read_as 1 (only (a_letter (sign (letter_of_key a) no_tone)) b)) (sym e ∙ t))

  pub no_one : r ≡ false → None ≡ read_as 1 (one_byte a)
  no_one t = sym (ap (λ (b : Bool). read_as 1 (only (a_letter (sign (letter_of_key a) no_tone)) b)) (sym e ∙ t))

-- a byte that follows
follow : (b : ℕ) → follows_on b ≡ true → Follows b
follow b e = record { low = leb-true 0x80 b (first (leb 0x80 b) (ltb b 0xC0) e); high = ltb-true b 0xC0 (second (leb 0x80 b) (ltb b 0xC0) e) }

-- two bytes
pub in_two : (a b : ℕ) → leb least_lead a && follows_on b ≡ true → InTwo a b
in_two a b e = record { lead = leb-true least_lead a (first (leb least_lead a) (follows_on b) e); tail = follow b (second (leb least_lead a) (follows_on b) e) }

module _ {r : Bool} (a b : ℕ) (e : r ≡ follows_on b) where
  pub two_range : leb least_lead a && r ≡ true → InTwo a b
  two_range t = in_two a b (tested (leb least_lead a) e t)

  pub is_two : leb least_lead a && r ≡ true → found (point_of_two a b) ≡ two_bytes a b
  is_two t = sym (ap (only (found (point_of_two a b))) (tested (leb least_lead a) e t))

  pub no_two : leb least_lead a && r ≡ false → None ≡ read_as 2 (two_bytes a b)
  no_two t = sym (ap (λ (x : Bool). read_as 2 (only (found (point_of_two a b)) x)) (tested (leb least_lead a) e t))

-- three bytes
pub in_three : (a b c : ℕ) → ltb a 0xF0 && (follows_on b && follows_on c) ≡ true → InThree a b c
in_three a b c e =
    let d : follows_on b && follows_on c ≡ true = second (ltb a 0xF0) (follows_on b && follows_on c) e in
    record {
      lead = ltb-true a 0xF0 (first (ltb a 0xF0) (follows_on b && follows_on c) e);
      middle = follow b (first (follows_on b) (follows_on c) d);
      tail = follow c (second (follows_on b) (follows_on c) d);
    }

abbrev long : ℕ → ℕ → ℕ → Bool → Bool → Front
long a b c x y = only (only (found (point_of_three a b c)) y) x

module _ {r s : Bool} (a b c : ℕ) (e : r ≡ follows_on b) (d : s ≡ follows_on c) where
  test_is : {x : Bool} → ltb a 0xF0 && (r && s) ≡ x → ltb a 0xF0 && (follows_on b && follows_on c) ≡ x
  test_is t = tested (ltb a 0xF0) (ap₂ (λ (x y : Bool). x && y) e d) t

  pub three_range : ltb a 0xF0 && (r && s) ≡ true → InThree a b c
  three_range t = in_three a b c (test_is t)

  pub is_three : ltb a 0xF0 && (r && s) ≡ true → least_point ≤ point_of_three a b c → found (point_of_three a b c) ≡ three_bytes a b c
  is_three t l = sym (ap₂ (long a b c) (test_is t) (le-leb least_point (point_of_three a b c) l))

  pub overlong : ltb a 0xF0 && (r && s) ≡ true → point_of_three a b c < least_point → None ≡ read_as 3 (three_bytes a b c)
  overlong t l = sym (ap₂ (λ (x y : Bool). read_as 3 (long a b c x y)) (test_is t) (lt-leb least_point (point_of_three a b c) l))

  pub no_three : ltb a 0xF0 && (r && s) ≡ false → None ≡ read_as 3 (three_bytes a b c)
  no_three t = sym (ap (λ (x : Bool). read_as 3 (long a b c x (leb least_point (point_of_three a b c)))) (test_is t))
