-- The fault of the letters read, by the tests that the code asks: two tones, the verdict, and the tone at its place.
use Rattle.std.specs.Option.{option_eq}
use Rattle.std.specs.Prelude.{Option, Some, None}
use mathlib.Core.Path.{◌≡◌, refl, sym, ap, ap₂, ◌∙◌}
use mathlib.Core.Bool.{Bool, true, false, ◌&&◌}
use mathlib.Core.List.{List, [], ◌∷◌}
use Prim.Native.Nat.{ℕ, zero, suc}
use native.Mathlib.Omega.{arith}
use lib.Dec.{eqb, eqb-zero-suc, eqb-suc-zero, eqb-suc-suc}
use borrow.Author.Tests.{eqb-true, eqb-false, eq-eqb, ne_eqb}
use Rattle.rules.specs.Letters.{Letters, no_tone}
use Rattle.rules.specs.TonePlace.{tone_place}
use Rattle.rules.specs.TakingApart.{verdict}
use Rattle.rules.specs.CodePoints.{Sign, without_tone, signs_at, signs}
use Rattle.rules.specs.Speller.{letters_in, tones_in, first_tone, tone_in, two_tones, same_tones, fault}
use Rattle.speller.specs.TextRead.{one_on, tone_place_in}
use Rattle.speller.proofs.Tones.{tones_if, place_if, none_carried}

-- with no tone on any letter
none_there : (ss : List Sign) → tones_in ss ≡ [] → (same_tones ss (without_tone (letters_in ss)) ≡ true) × (tone_place_in ss ≡ None)
none_there [] e = (refl, refl)
none_there (s ∷ ss) e = go (eqb s.tone no_tone) (none_there ss) e
  where
    go : (b : Bool) → (tones_in ss ≡ [] → (same_tones ss (without_tone (letters_in ss)) ≡ true) × (tone_place_in ss ≡ None)) → tones_if b s.tone (tones_in ss) ≡ []
        → (b && same_tones ss (without_tone (letters_in ss)) ≡ true) × (place_if b (tone_place_in ss) ≡ None)
    go true f h = ((f h).0, ap one_on (f h).1)
    go false f h = let z : ◌≡◌ {A = ℕ} 0 1 = cc in absurd (omega arith)

-- the tones that are carried are not 0
carried : (ss : List Sign) (t : ℕ) (ts : List ℕ) → tones_in ss ≡ t ∷ ts → t ≡ no_tone → ⊥
carried ss t ts e z = let k : ◌≡◌ {A = ℕ} 0 1 = cc (none_carried ss (ap first_tone e ∙ z)) in omega arith

-- one place on
on_nowhere : (p : Option ℕ) → option_eq eqb p None ≡ option_eq eqb (one_on p) None
on_nowhere (Some n) = refl
on_nowhere None = refl

on_first : (p : Option ℕ) → false ≡ option_eq eqb (one_on p) (Some 0)
on_first (Some n) = sym (eqb-suc-zero n)
on_first None = refl

on_next : (p : Option ℕ) (n : ℕ) → option_eq eqb p (Some n) ≡ option_eq eqb (one_on p) (Some (suc n))
on_next (Some m) n = sym (eqb-suc-suc m n)
on_next None n = refl

-- with a tone on one letter
one_there : (ss : List Sign) (t : ℕ) → tones_in ss ≡ t ∷ [] → (p : Option ℕ) → same_tones ss (signs_at p t (letters_in ss)) ≡ option_eq eqb (tone_place_in ss) p
one_there [] t e p = let z : ◌≡◌ {A = ℕ} 0 1 = cc in absurd (omega arith)
one_there (s ∷ ss) t e p = go (eqb s.tone no_tone) refl e p (one_there ss t)
  where
    silent : s.tone ≡ no_tone → (t ≡ no_tone → ⊥) → (p : Option ℕ) → ((q : Option ℕ) → same_tones ss (signs_at q t (letters_in ss)) ≡ option_eq eqb (tone_place_in ss) q)
        → same_tones (s ∷ ss) (signs_at p t (letters_in (s ∷ ss))) ≡ option_eq eqb (one_on (tone_place_in ss)) p
    silent z n None f = ap₂ ◌&&◌ (eq-eqb s.tone no_tone z) (f None) ∙ on_nowhere (tone_place_in ss)
    silent z n (Some zero) f = ap (λ (b : Bool). b && same_tones ss (without_tone (letters_in ss))) (ne_eqb s.tone t (λ k. n (sym k ∙ z))) ∙ on_first (tone_place_in ss)
    silent z n (Some (suc m)) f = ap₂ ◌&&◌ (eq-eqb s.tone no_tone z) (f (Some m)) ∙ on_next (tone_place_in ss) m

    loud : (s.tone ≡ no_tone → ⊥) → s.tone ≡ t → tones_in ss ≡ [] → (p : Option ℕ) → same_tones (s ∷ ss) (signs_at p t (letters_in (s ∷ ss))) ≡ option_eq eqb (Some 0) p
    loud n k h None = ap (λ (b : Bool). b && same_tones ss (without_tone (letters_in ss))) (ne_eqb s.tone no_tone n)
    loud n k h (Some zero) = ap₂ ◌&&◌ (eq-eqb s.tone t k) (none_there ss h).0
    loud n k h (Some (suc m)) = ap (λ (b : Bool). b && same_tones ss (signs_at (Some m) t (letters_in ss))) (ne_eqb s.tone no_tone n) ∙ sym (eqb-zero-suc m)

    go : (b : Bool) → eqb s.tone no_tone ≡ b → tones_if b s.tone (tones_in ss) ≡ t ∷ [] → (p : Option ℕ)
        → (tones_in ss ≡ t ∷ [] → (q : Option ℕ) → same_tones ss (signs_at q t (letters_in ss)) ≡ option_eq eqb (tone_place_in ss) q)
        → same_tones (s ∷ ss) (signs_at p t (letters_in (s ∷ ss))) ≡ option_eq eqb (place_if b (tone_place_in ss)) p
    go true k h p f = silent (eqb-true s.tone no_tone k) (carried ss t [] h) p (f h)
    go false k h p f = loud (eqb-false s.tone no_tone k) (cc) (cc) p

-- so the tone stands on its letter where the two places are the same
no_place : (w : Letters) → tone_place w no_tone ≡ None
unfolding tone_place
no_place w = refl

stands : (ss : List Sign) → two_tones (tones_in ss) ≡ false → same_tones ss (signs (letters_in ss) (tone_in ss)) ≡ option_eq eqb (tone_place_in ss) (tone_place (letters_in ss) (tone_in ss))
stands ss two = go (tones_in ss) refl two
  where
    go : (ts : List ℕ) → tones_in ss ≡ ts → two_tones ts ≡ false → same_tones ss (signs (letters_in ss) (first_tone ts)) ≡ option_eq eqb (tone_place_in ss) (tone_place (letters_in ss) (first_tone ts))
    go [] e h =
        let none = none_there ss e in
        ap (λ (p : Option ℕ). same_tones ss (signs_at p no_tone (letters_in ss))) (no_place (letters_in ss)) ∙ none.0 ∙
        sym (ap₂ (option_eq eqb) none.1 (no_place (letters_in ss)))
    go (t ∷ []) e h = one_there ss t e (tone_place (letters_in ss) t)
    go (t ∷ u ∷ us) e h = let z : ◌≡◌ {A = ℕ} 0 1 = cc in absurd (omega arith)

-- the three answers
abbrev fault_if : Bool → Bool → Bool → ℕ → ℕ
fault_if two sound stood v = elim two [ true ↦ 8 | false ↦ elim sound [ false ↦ v | true ↦ elim stood [ true ↦ 0 | false ↦ 9 ] ] ]

module _ (ss : List Sign) where
  abbrev asked : ℕ
  asked = verdict (letters_in ss) (tone_in ss)

  pub two_carry : two_tones (tones_in ss) ≡ true → 8 ≡ fault ss
  two_carry e = sym (ap (λ (b : Bool). fault_if b (eqb asked 0) (same_tones ss (signs (letters_in ss) (tone_in ss))) asked) e)

  pub judged : two_tones (tones_in ss) ≡ false → (asked ≡ 0 → ⊥) → asked ≡ fault ss
  judged e n = sym (ap₂ (λ (b c : Bool). fault_if b c (same_tones ss (signs (letters_in ss) (tone_in ss))) asked) e (ne_eqb asked 0 n))

  pub placed : two_tones (tones_in ss) ≡ false → asked ≡ 0 → (b : Bool) → option_eq eqb (tone_place_in ss) (tone_place (letters_in ss) (tone_in ss)) ≡ b → elim b [ true ↦ 0 | false ↦ 9 ] ≡ fault ss
  placed e z b h =
      let c = eq-eqb asked 0 z in
      let d = stands ss e ∙ h in
      λ j. fault_if (sym e j) (sym c j) (sym d j) asked
