-- When the speller finds no fault in what is read: exactly in the letters as shown of a valid syllable.
use mathlib.Core.Path.{◌≡◌, refl, sym, ap₂, subst, ◌∙◌}
use mathlib.Core.Bool.{Bool, true, false}
use mathlib.Core.List.{List, [], ◌∷◌, head-eq_of_cons-eq, tail-eq_of_cons-eq}
use Prim.Native.Nat.{ℕ, ◌≤◌}
use native.Mathlib.Omega.{arith}
use lib.Dec.{T, eqb, eqb→eq, eqb_refl, leb, leb→le, lit≤}
use lib.Ieee.Fits.{and_i, and_l, and_r, eq→eqb}
use Rattle.rules.specs.Letters.{Letters, no_tone, dot}
use Rattle.rules.specs.TakingApart.{verdict}
use Rattle.rules.specs.CodePoints.{Sign, sign, signs}
use Rattle.rules.specs.Speller.{letters_in, tones_in, first_tone, tone_in, two_tones, same_tones, fault}
use Rattle.letters.specs.Alphabet.{every_sign, in_alphabet}
use Rattle.letters.proofs.Fronts.{of_alphabet}
use Rattle.rules.specs.CodePoints.{alphabet}
use Rattle.rules.specs.Syllables.{Syllable}
use Rattle.forms.proofs.ReadBack.{all_in_alphabet}
use Rattle.forms.proofs.Signs.{letters_back, tones_back}

abbrev fault_if : Bool → Bool → Bool → ℕ → ℕ
fault_if two valid placed v = elim two [ true ↦ 8 | false ↦ elim valid [ false ↦ v | true ↦ elim placed [ true ↦ 0 | false ↦ 9 ] ] ]

same_tones_law : (ss : List Sign) → T (same_tones ss ss)
same_tones_law [] = tt
same_tones_law (s ∷ ss) = and_i (eqb s.tone s.tone) (same_tones ss ss) (eqb_refl s.tone) (same_tones_law ss)

-- a syllable as it is shown
pub no_fault : (w : Letters) (t : ℕ) → Syllable w t → fault (signs w t) ≡ 0
no_fault w t s =
    let ss = signs w t in
    let tones = tones_back w t s in
    let e : signs (letters_in ss) (tone_in ss) ≡ ss = ap₂ signs (letters_back w t) tones.tone in
    let v : verdict (letters_in ss) (tone_in ss) ≡ 0 = ap₂ verdict (letters_back w t) tones.tone ∙ s.valid in
    go (two_tones (tones_in ss)) (eqb (verdict (letters_in ss) (tone_in ss)) 0) (same_tones ss (signs (letters_in ss) (tone_in ss))) tones.not_two (eq→eqb v)
    (verdict (letters_in ss) (tone_in ss)) (subst (λ (zs : List Sign). T (same_tones ss zs)) (sym e) (same_tones_law ss))
  where
    go : (a b c : Bool) → a ≡ false → T b → (v : ℕ) → T c → fault_if a b c v ≡ 0
    go true b c e t v u = absurd (subst T e tt)
    go false true true e t v u = refl
    go false false c e t v u = elim t [ ]
    go false true false e t v u = elim u [ ]

-- and no other
record Faultless (ss : List Sign) : Type 0 where
  valid : verdict (letters_in ss) (tone_in ss) ≡ 0
  placed : T (same_tones ss (signs (letters_in ss) (tone_in ss)))

faultless : (ss : List Sign) → fault ss ≡ 0 → Faultless ss
faultless ss h = go (two_tones (tones_in ss)) (eqb (verdict (letters_in ss) (tone_in ss)) 0) (same_tones ss (signs (letters_in ss) (tone_in ss))) refl refl h
  where
    go : (a b c : Bool) → eqb (verdict (letters_in ss) (tone_in ss)) 0 ≡ b → same_tones ss (signs (letters_in ss) (tone_in ss)) ≡ c → fault_if a b c (verdict (letters_in ss) (tone_in ss)) ≡ 0 → Faultless ss
    go true b c e f h = absurd (omega (arith, h))
    go false true true e f h = record { valid = eqb→eq (verdict (letters_in ss) (tone_in ss)) 0 (subst T (sym e) tt); placed = subst T (sym f) tt }
    go false true false e f h = absurd (omega (arith, h))
    go false false c e f h = absurd (subst T e (eq→eqb h))

same_signs : (ss zs : List Sign) → letters_in ss ≡ letters_in zs → T (same_tones ss zs) → ss ≡ zs
same_signs [] [] e t = refl
same_signs (s ∷ ss) (z ∷ zs) e t =
    ap₂ (λ (x : Sign) (xs : List Sign). x ∷ xs) (ap₂ sign (head-eq_of_cons-eq e) (eqb→eq s.tone z.tone (and_l (eqb s.tone z.tone) (same_tones ss zs) t)))
    (same_signs ss zs (tail-eq_of_cons-eq e) (and_r (eqb s.tone z.tone) (same_tones ss zs) t))
same_signs [] (z ∷ zs) e t = elim t [ ]
same_signs (s ∷ ss) [] e t = elim t [ ]

abbrev six_tones : Sign → Bool
six_tones s = leb s.tone dot

all_six : T (every_sign six_tones alphabet)
all_six = tt

tone_exists : (ss : List Sign) → T (all_in_alphabet ss) → tone_in ss ≤ dot
tone_exists [] t = lit≤ tt
tone_exists (s ∷ ss) t =
    go (eqb s.tone no_tone) (tones_in ss) (tone_exists ss (and_r (in_alphabet s) (all_in_alphabet ss) t)) (leb→le s.tone dot (of_alphabet six_tones all_six s (and_l (in_alphabet s) (all_in_alphabet ss) t)))
  where
    go : (b : Bool) (ts : List ℕ) → first_tone ts ≤ dot → s.tone ≤ dot → first_tone (elim b [ true ↦ ts | false ↦ s.tone ∷ ts ]) ≤ dot
    go true ts h k = h
    go false ts h k = k

pub record Syllabic (ss : List Sign) : Type 0 where
  pub syllable : Syllable (letters_in ss) (tone_in ss)
  pub as_shown : ss ≡ signs (letters_in ss) (tone_in ss)

pub only_syllables : (ss : List Sign) → T (all_in_alphabet ss) → fault ss ≡ 0 → Syllabic ss
only_syllables ss k h =
    let f = faultless ss h in
    let w = letters_in ss in
    let t = tone_in ss in
    record { syllable = record { valid = f.valid; tone = tone_exists ss k }; as_shown = same_signs ss (signs w t) (sym (letters_back w t)) f.placed }
