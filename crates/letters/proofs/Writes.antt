-- Which numbers are letters, and the code point and the bytes of a number with a tone, case by case as the code goes.
use mathlib.Core.Path.{◌≡◌, refl, sym, ap, ap₂, ◌∙◌}
use mathlib.Core.Bool.{Bool, true, false, not, ◌&&◌, ◌||◌, beq}
use mathlib.Core.List.{List, [], ◌∷◌}
use Prim.Native.Nat.{ℕ, ◌+◌, ◌-◌, ◌*◌, ◌≤◌, ◌<◌, ◌/◌, ◌%◌}
use Prim.Native.Char.{code}
use native.Mathlib.Omega.{arith}
use lib.Dec.{T, eqb, eqb→eq, leb, ltb}
use lib.ListN.{get_or}
use lib.Ieee.Fits.{and_l, and_r}
use borrow.Author.Tests.{lt-ltb, le-ltb, le-leb, lt-leb, eq-eqb, ne_eqb, eqb-true, eqb-false, leb-true, ltb-true, ltb-false}
use Rattle.rules.specs.Letters.{vni, no_tone, dot, stroke, named, carries}
use Rattle.rules.specs.TakingApart.{vowel}
use Rattle.rules.specs.TheWord.{letter, number, capital_number}
use Rattle.rules.specs.KeyRoles.{is_small, is_digit}
use Rattle.rules.specs.CodePoints.{vowels, sign, small_point, capital_point, in_case, point, utf8}
use Rattle.rules.specs.Refusals.{base_allowed, shape_carried, no_capital_digit}
use Rattle.rules.proofs.Tests.{is_true}
use Rattle.letters.specs.Rows.{vowel_row_in, vowel_row, points_in, points_of}
use Rattle.letters.specs.Writing.{is_letter, tone_stands, is_shaped, point_or, bytes_if, letter_bytes}
use Rattle.keys.proofs.Bools.{first, second, either, same_bool}
use Rattle.rules.proofs.Tables.{each_below, below}
use Rattle.letters.proofs.Points.{Rowed, rowed_at, small_number, small_row, in_row_law, in_no_row}

-- a number below 4096 is its letter's number, and no other is
back : (n : ℕ) (b : Bool) → eqb (n / 2048 % 2) 1 ≡ b → n < 4096 → n % 256 + 256 * (n / 256 % 8) + capital_number b ≡ n
back n true e h = omega (arith, eqb-true)
back n false e h = omega (arith, eqb-false)

too_small : (n : ℕ) (b : Bool) → 4096 ≤ n → n % 256 + 256 * (n / 256 % 8) + capital_number b ≡ n → ⊥
too_small n true h e = omega arith
too_small n false h e = omega arith

pub number_back : (n : ℕ) → eqb (number (letter n)) n ≡ ltb n 4096
number_back n = go (ltb n 4096) refl
  where
    go : (b : Bool) → ltb n 4096 ≡ b → eqb (number (letter n)) n ≡ b
    go true e = eq-eqb (number (letter n)) n (back n (letter n).capital refl (ltb-true n 4096 e))
    go false e = ne_eqb (number (letter n)) n (too_small n (letter n).capital (ltb-false n 4096 e))

-- A number that is a letter: any small letter, plain or shaped, in either case, and a VNI digit. Computed over each number, in and out of VNI.
abbrev letter_as : Bool → ℕ → Bool
letter_as v n = (eqb (number (letter n)) n && (is_small (n % 256) || (v && is_digit (n % 256)))) && (carries (n / 256 % 8) (n % 256) && no_capital_digit (letter n))

abbrev numbered : Bool → ℕ → Bool
numbered v n = (is_small (n % 2048) || is_shaped (n % 2048)) || (v && is_digit n)

abbrev agrees : ℕ → Bool
agrees n = beq (numbered true n) (letter_as true n) && beq (numbered false n) (letter_as false n)

all_agree : T (each_below agrees 4096)
all_agree = tt

module _ (mode n : ℕ) where
  pub too_large : 4096 ≤ n → false ≡ is_letter mode n
  too_large h = ap (λ (p : Bool). (p && base_allowed mode (letter n)) && (shape_carried (letter n) && no_capital_digit (letter n))) (sym (number_back n ∙ le-ltb n 4096 h))

  pub by_number : n < 4096 → (is_small (n % 2048) || is_shaped (n % 2048)) || (eqb mode vni && is_digit n) ≡ is_letter mode n
  by_number h = go (eqb mode vni) (below agrees 4096 all_agree n h)
    where
      go : (v : Bool) → T (agrees n) → numbered v n ≡ letter_as v n
      go true t = same_bool (numbered true n) (letter_as true n) (search and_l)
      go false t = same_bool (numbered false n) (letter_as false n) (search and_r)

  pub plain_letter : is_small n ≡ true → true ≡ is_letter mode n
  plain_letter e =
      let top = leb-true n (code "z") (second (leb (code "a") n) (leb n (code "z")) e) in
      let same : n % 2048 ≡ n = omega arith in
      sym (ap (λ (p : Bool). (p || is_shaped (n % 2048)) || (eqb mode vni && is_digit n)) (ap is_small same ∙ e)) ∙ by_number (omega arith)

-- a number with a row is a letter: computed over those of small letters
abbrev row_letter : ℕ → Bool
row_letter n = not (ltb (vowel_row (letter n)) 12) || (is_small n || is_shaped n)

all_rows : T (each_below row_letter 2048)
unfolding vowel_row
all_rows = tt

pub row_letter_law : (n r : ℕ) → n < 4096 → r ≡ vowel_row (letter (n % 2048)) → r < 12 → is_letter vni n ≡ true
row_letter_law n r h e l =
    let s : ℕ = n % 2048 in
    let t = either (ltb (vowel_row (letter s)) 12) (is_small s || is_shaped s) (below row_letter 2048 all_rows s (omega arith)) (lt-ltb (vowel_row (letter s)) 12 (omega arith)) in
    sym (by_number vni n h) ∙ ap (λ (p : Bool). p || is_digit n) (is_true (is_small s || is_shaped s) t)

-- a letter's parts
pub letter_rowed : (n : ℕ) → is_letter vni n ≡ true → Rowed n
letter_rowed n e = rowed_at n (go (eqb (number (letter n)) n) (is_small (n % 256) || is_digit (n % 256)) (carries (n / 256 % 8) (n % 256)) (no_capital_digit (letter n)) e)
  where
    go : (p q r s : Bool) → (p && q) && (r && s) ≡ true → q && r ≡ true
    go true true r s e = first r s e
    go true false r s e = e
    go false q r s e = let z : ◌≡◌ {A = ℕ} 0 1 = cc in absurd (omega arith)

-- no letter, and a tone that does not exist
pub not_a_letter : (n t : ℕ) → is_letter vni n ≡ false → 0 ≡ point_or n t
unfolding point_or
not_a_letter n t e = rw (point_or, e)

unstanding : (n t : ℕ) → tone_stands n t ≡ false → 0 ≡ point_or n t
unfolding point_or
unstanding n t e = go (is_letter vni n)
  where
    go : (p : Bool) → ◌≡◌ {A = ℕ} 0 (elim (p && tone_stands n t) [ true ↦ point (sign (letter n) t) | false ↦ 0 ])
    go true = rw e
    go false = refl

pub no_such_tone : (n t : ℕ) → dot < t → 0 ≡ point_or n t
no_such_tone n t h = unstanding n t (rw (lt-leb t dot h))

shown : (n t p : ℕ) → is_letter vni n ≡ true → tone_stands n t ≡ true → p ≡ small_point vowels (letter n) t → in_case (letter n).capital p ≡ point_or n t
unfolding point_or
shown n t p e d q =
    ap (in_case (letter n).capital) q
    ∙ sym (ap₂ (λ (b c : Bool). elim (b && c) [ true ↦ point (sign (letter n) t) | false ↦ 0 ]) e d)

-- a letter with a row stands with any tone, and has its row's code point
or-true : (p : Bool) → p || true ≡ true
or-true true = refl
or-true false = refl

pub with_row : (n t r : ℕ) → n < 4096 → t ≤ dot → r ≡ vowel_row (letter (n % 2048)) → r < 12
    → in_case (letter n).capital (get_or (points_of r) t 0) ≡ point_or n t
unfolding vowel_row points_of
with_row n t r b h d l =
    let e = row_letter_law n r b d l in
    let q : r ≡ vowel_row_in vowels (letter n) = d ∙ small_row n in
    let k : vowel_row_in vowels (letter n) < 12 = omega arith in
    shown n t (get_or (points_of r) t 0) e
    (rw (le-leb t dot h, (letter_rowed n e).vowel_is, lt-ltb (vowel_row_in vowels (letter n)) 12 k) (or-true (eqb t no_tone)))
    (ap (λ (i : ℕ). get_or (points_in vowels i) t 0) q ∙ sym (in_row_law vowels (letter n) t k))

-- a letter with no row stands with no tone only: đ, or the byte of its base
abbrev pick : ℕ → Bool → ℕ
pick n b = elim b [ true ↦ 0x111 | false ↦ n % 256 ]

and_true : {p q : Bool} → p ≡ true → q ≡ true → p && q ≡ true
and_true e d = rw (e, d)

module _ (n r : ℕ) (e : is_letter vni n ≡ true) (d : r ≡ vowel_row (letter (n % 2048))) (l : 12 ≤ r) where
  no_vowel : vowel (letter n).base ≡ false
  no_vowel = (letter_rowed n e).vowel_is ∙ le-ltb (vowel_row (letter n)) 12 (omega (arith, small_row n))

  pub no_row_toned : (t : ℕ) → (t ≡ 0 → ⊥) → 0 ≡ point_or n t
  no_row_toned t h = unstanding n t (go (leb t dot))
    where
      go : (p : Bool) → p && (eqb t no_tone || vowel (letter n).base) ≡ false
      go true = rw (ne_eqb t 0 h) no_vowel
      go false = refl

  untoned : (p : ℕ) → p ≡ small_point [] (letter n) 0 → in_case (letter n).capital p ≡ point_or n 0
  unfolding vowel_row
  untoned p q = shown n 0 p e refl (q ∙ sym (in_no_row vowels (letter n) 0 (omega (arith, small_row n))))

  pub no_row_stroke : (t : ℕ) → t ≡ 0 → n % 2048 ≡ number (named (code "đ")) → in_case (letter n).capital 0x111 ≡ point_or n t
  no_row_stroke t z h =
      let b : n % 256 ≡ code "d" = omega (arith, small_number n) in
      let s : n / 256 % 8 ≡ stroke = omega (arith, small_number n) in
      rw z (untoned 0x111 (sym (ap (pick n) (and_true (eq-eqb (n % 256) (code "d") b) (eq-eqb (n / 256 % 8) stroke s)))))

  pub no_row_plain : (t : ℕ) → t ≡ 0 → (n % 2048 ≡ number (named (code "đ")) → ⊥) → in_case (letter n).capital (n % 256) ≡ point_or n t
  no_row_plain t z h = rw z (untoned (n % 256) (sym (ap (pick n) (go (eqb (n % 256) (code "d")) (eqb (n / 256 % 8) stroke) refl refl))))
    where
      go : (p q : Bool) → eqb (n % 256) (code "d") ≡ p → eqb (n / 256 % 8) stroke ≡ q → eqb (n % 256) (code "d") && eqb (n / 256 % 8) stroke ≡ false
      go true true b s = absurd (h (omega (arith, small_number n, eqb-true)))
      go true false b s = rw (b, s)
      go false q b s = rw b

-- the bytes of the code point are those written: no letter has the code point 0
above : (n t : ℕ) → is_letter vni n ≡ true → t < 6 → eqb (point (sign (letter n) t)) 0 ≡ false
above n t e h = go (letter n).capital (small_point vowels (letter n) t) ((letter_rowed n e).points t h)
  where
    low : (p : ℕ) (b : Bool) → 32 < p → 0 < elim b [ true ↦ p - 32 | false ↦ p - 1 ]
    low p true l = omega arith
    low p false l = omega arith

    go : (b : Bool) (p : ℕ) → 32 < p → eqb (in_case b p) 0 ≡ false
    go true p l = ne_eqb (capital_point p) 0 (λ z. omega (arith, low p (ltb p 0x100) l))
    go false p l = ne_eqb p 0 (omega arith)

pub point_bytes : (n t : ℕ) → bytes_if (point_or n t) ≡ letter_bytes n t
unfolding point_or letter_bytes
point_bytes n t = go (is_letter vni n) (leb t dot) (eqb t no_tone || vowel (letter n).base) refl refl
  where
    go : (p q r : Bool) → is_letter vni n ≡ p → leb t dot ≡ q
        → bytes_if (elim (p && (q && r)) [ true ↦ point (sign (letter n) t) | false ↦ 0 ]) ≡ elim (p && (q && r)) [ true ↦ utf8 (point (sign (letter n) t)) | false ↦ [] ]
    go true true true e d = rw (bytes_if, above n t e (omega (arith, leb-true t dot d)))
    go true true false e d = refl
    go true false r e d = refl
    go false q r e d = refl

-- a plain small letter is its own byte: computed over each
abbrev is_own : ℕ → List ℕ → Bool
is_own n [] = false
is_own n (a ∷ []) = eqb n a
is_own n (a ∷ b ∷ bs) = false

abbrev bare : ℕ → Bool
bare n = not (is_small n) || is_own n (letter_bytes n no_tone)

bare_all : T (each_below bare 128)
unfolding letter_bytes
bare_all = tt

pub fits_a_byte : (n : ℕ) → is_small n ≡ true → n < 128
fits_a_byte n e = omega (arith, leb-true n (code "z") (second (leb (code "a") n) (leb n (code "z")) e))

pub own_byte : (n : ℕ) → is_small n ≡ true → n ∷ [] ≡ letter_bytes n no_tone
own_byte n e = go (letter_bytes n no_tone) (either (is_small n) (is_own n (letter_bytes n no_tone)) (below bare 128 bare_all n (fits_a_byte n e)) e)
  where
    go : (bs : List ℕ) → T (is_own n bs) → n ∷ [] ≡ bs
    go [] i = absurd i
    go (a ∷ []) i = ap (λ (x : ℕ). x ∷ []) (eqb→eq n a i)
    go (a ∷ b ∷ bs) i = absurd i
