-- What the code makes of a record in range is the text that the rules say its word shows.
use Rattle.std.specs.Prelude.{Option, Some, None}
use mathlib.Core.Path.{◌≡◌, refl, sym, ap, ap₂, subst, ◌∙◌}
use mathlib.Core.Bool.{Bool, true, false, not, ◌&&◌, ◌||◌}
use mathlib.Core.List.{List, [], ◌∷◌, ◌++◌, map}
use Prim.Native.Nat.{ℕ, zero, suc, ◌+◌, ◌%◌, ◌≤◌}
use native.Mathlib.Omega.{arith}
use borrow.Author.Tests.{eq-eqb, ne_eqb, le-leb}
use lib.Dec.{T, eqb, leb}
use lib.ListN.{take}
use lib.Ieee.Fits.{and_l, and_r, and_i}
use Rattle.rules.specs.Letters.{vni, no_tone, dot}
use Rattle.rules.specs.TakingApart.{vowel}
use Rattle.rules.specs.TonePlace.{tone_place}
use Rattle.rules.specs.TheWord.{letter, number, word_of}
use Rattle.rules.specs.KeyRoles.{is_small, is_digit}
use Rattle.rules.specs.CodePoints.{sign, point, utf8, bytes, without_tone, tone_at, signs_at, shown}
use Rattle.rules.specs.Refusals.{all, all_letters, letter_allowed, shape_carried, no_capital_digit, out_of_range}
use Rattle.rules.specs.declared.Word.{Word}
use Rattle.rules.proofs.Tests.{or_r}
use Rattle.rules.proofs.Numbers.{NumbersInRange}
use Rattle.rules.proofs.Range.{in_range}
use Rattle.rules.proofs.TonePlaces.{vowel_at, tone_on_a_vowel}
use Rattle.letters.specs.Writing.{is_letter, tone_stands, letter_bytes}
use Rattle.show.specs.Filling.{tone_if, tone_on, text_from}

-- a letter of its word, with a tone that stands there, is written as its bytes
if_both : {A : Type 0} (p q : Bool) (x y : A) → T p → T q → elim (p && q) [ true ↦ x | false ↦ y ] ≡ x
if_both true true x y s t = refl
if_both true false x y s t = absurd t
if_both false q x y s t = absurd s

as_bytes : (n t : ℕ) → T (is_letter vni n) → T (tone_stands n t) → letter_bytes n t ≡ utf8 (point (sign (letter n) t))
unfolding letter_bytes
as_bytes n t l s = if_both (is_letter vni n) (tone_stands n t) (utf8 (point (sign (letter n) t))) [] l s

-- letters without a tone
no_tone_stands : (n : ℕ) → T (tone_stands n no_tone)
no_tone_stands n = tt

without : (p : Option ℕ) (t i : ℕ) (ns : List ℕ) → T (all (is_letter vni) ns) → ((k : ℕ) → i ≤ k → tone_on p t k ≡ no_tone) → text_from p t i ns ≡ bytes (without_tone (map letter ns))
without p t i [] l off = refl
without p t i (n ∷ ns) l off =
    ap₂ ◌++◌
    (ap (letter_bytes n) (off i (omega arith)) ∙ as_bytes n no_tone (and_l (is_letter vni n) (all (is_letter vni) ns) l) (no_tone_stands n))
    (without p t (suc i) ns (and_r (is_letter vni n) (all (is_letter vni) ns) l) (λ k h. off k (omega arith)))

-- the tone on a vowel, the others without
module _ (t : ℕ) (most : t ≤ dot) where
  on_vowel : (n : ℕ) → T (vowel (letter n).base) → T (tone_stands n t)
  on_vowel n v = go (leb t dot) (le-leb t dot most) (or_r (eqb t no_tone) (vowel (letter n).base) v)
    where
      go : (b : Bool) → b ≡ true → T (eqb t no_tone || vowel (letter n).base) → T (b && (eqb t no_tone || vowel (letter n).base))
      go true e s = s
      go false e s = let z : ◌≡◌ {A = ℕ} 0 1 = cc in absurd (omega arith)

  toned : (i k : ℕ) (ns : List ℕ) → T (all (is_letter vni) ns) → T (vowel_at k (map letter ns)) → text_from (Some (i + k)) t i ns ≡ bytes (tone_at k t (map letter ns))
  toned i k [] l v = absurd v
  toned i zero (n ∷ ns) l v =
      ap₂ ◌++◌
      (ap (λ (b : Bool). letter_bytes n (tone_if b t)) (eq-eqb i (i + 0) (omega arith)) ∙ as_bytes n t (and_l (is_letter vni n) (all (is_letter vni) ns) l) (on_vowel n v))
      (without (Some (i + 0)) t (suc i) ns (and_r (is_letter vni n) (all (is_letter vni) ns) l) (λ k h. ap (λ (b : Bool). tone_if b t) (ne_eqb k (i + 0) (λ e. omega arith))))
  toned i (suc k) (n ∷ ns) l v =
      let e : i + suc k ≡ suc i + k = omega arith in
      ap₂ ◌++◌
      (ap (λ (b : Bool). letter_bytes n (tone_if b t)) (ne_eqb i (i + suc k) (λ e. omega arith)) ∙ as_bytes n no_tone (and_l (is_letter vni n) (all (is_letter vni) ns) l) (no_tone_stands n))
      (ap (λ (m : ℕ). text_from (Some m) t (suc i) ns) e ∙ toned (suc i) k ns (and_r (is_letter vni n) (all (is_letter vni) ns) l) v)

  signed : (p : Option ℕ) (ns : List ℕ) → T (all (is_letter vni) ns) → ((k : ℕ) → p ≡ Some k → T (vowel_at k (map letter ns))) → text_from p t 0 ns ≡ bytes (signs_at p t (map letter ns))
  signed (Some k) ns l v = let e : k ≡ 0 + k = omega arith in ap (λ (m : ℕ). text_from (Some m) t 0 ns) e ∙ toned 0 k ns l (v k refl)
  signed None ns l v = without None t 0 ns l (λ k h. refl)

-- what a word of either mode can hold, a VNI word can
allowed_vni : (mode n : ℕ) → T (letter_allowed mode n) → T (letter_allowed vni n)
allowed_vni mode n = go (eqb (number (letter n)) n) (is_small (n % 256)) (eqb mode vni) (is_digit (n % 256))
  where
    go : (a s m d : Bool) → T (a && (s || (m && d))) → T (a && (s || (true && d)))
    go true true m d t = tt
    go true false true d t = t
    go true false false d t = absurd t
    go false s m d t = t

all_vni : (mode : ℕ) (ns : List ℕ) → NumbersInRange mode ns → T (all (is_letter vni) ns)
all_vni mode [] r = tt
all_vni mode (n ∷ ns) r =
    let ok = allowed_vni mode n (and_l (letter_allowed mode n) (all (letter_allowed mode) ns) r.allowed) in
    let carried = and_l (shape_carried (letter n)) (all_letters shape_carried ns) r.carried in
    let digit = and_l (no_capital_digit (letter n)) (all_letters no_capital_digit ns) r.digit in
    and_i (is_letter vni n) (all (is_letter vni) ns)
    (and_i (letter_allowed vni n) (shape_carried (letter n) && no_capital_digit (letter n)) ok (and_i (shape_carried (letter n)) (no_capital_digit (letter n)) carried digit))
    (all_vni mode ns
    (record {
      allowed = and_r (letter_allowed mode n) (all (letter_allowed mode) ns) r.allowed;
      carried = and_r (shape_carried (letter n)) (all_letters shape_carried ns) r.carried;
      digit = and_r (no_capital_digit (letter n)) (all_letters no_capital_digit ns) r.digit;
    }))

pub text_of_law : (w : Word) → out_of_range w ≡ false → text_from (tone_place (word_of w).state.letters w.tone) w.tone 0 (take w.count w.letters) ≡ shown (word_of w).state
text_of_law w e =
    let r = in_range w (subst (λ (b : Bool). T (not b)) (sym e) tt) in
    signed w.tone r.tone (tone_place (word_of w).state.letters w.tone) (take w.count w.letters) (all_vni w.mode (take w.count w.letters) r.letters)
    (tone_on_a_vowel (word_of w).state.letters w.tone)
