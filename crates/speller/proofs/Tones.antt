-- The tones of the letters read, and what one letter more changes of a reading.
use Rattle.std.specs.Prelude.{Option, Some, None}
use mathlib.Core.Path.{◌≡◌, refl, sym, ap, ◌∙◌}
use mathlib.Core.Bool.{Bool, true, false}
use mathlib.Core.List.{List, [], ◌∷◌, ◌++◌}
use Prim.Native.Nat.{ℕ, suc, ◌+◌}
use native.Mathlib.Omega.{arith}
use lib.Dec.{eqb}
use lib.ListN.{length, length-append}
use borrow.Author.Tests.{eqb-false, ne_eqb}
use Rattle.rules.specs.Letters.{no_tone}
use Rattle.rules.specs.CodePoints.{Sign}
use Rattle.rules.specs.Speller.{tones_in, first_tone, tone_in, two_tones}
use Rattle.speller.specs.declared.ReadSoFar.{ReadSoFar}
use Rattle.speller.specs.TextRead.{one_on, tone_place_in, reading_of}

-- one letter in front of others
abbrev pub tones_if : Bool → ℕ → List ℕ → List ℕ
tones_if b t ts = elim b [ true ↦ ts | false ↦ t ∷ ts ]

abbrev pub place_if : Bool → Option ℕ → Option ℕ
place_if b p = elim b [ true ↦ one_on p | false ↦ Some 0 ]

-- a letter more that carries no tone
module _ (s : Sign) (e : s.tone ≡ no_tone) where
  still_tones : (ss : List Sign) → tones_in (ss ++ (s ∷ [])) ≡ tones_in ss
  still_tones [] = ap (λ (t : ℕ). tones_if (eqb t no_tone) t []) e
  still_tones (x ∷ ss) = ap (tones_if (eqb x.tone no_tone) x.tone) (still_tones ss)

  still_place : (ss : List Sign) → tone_place_in (ss ++ (s ∷ [])) ≡ tone_place_in ss
  still_place [] = ap (λ (t : ℕ). place_if (eqb t no_tone) None) e
  still_place (x ∷ ss) = ap (place_if (eqb x.tone no_tone)) (still_place ss)

-- one that carries a tone
module _ (s : Sign) (e : s.tone ≡ no_tone → ⊥) where
  one_tone_more : (ss : List Sign) → tones_in (ss ++ (s ∷ [])) ≡ tones_in ss ++ (s.tone ∷ [])
  one_tone_more [] = ap (λ (b : Bool). tones_if b s.tone []) (ne_eqb s.tone no_tone e)
  one_tone_more (x ∷ ss) = ap (tones_if (eqb x.tone no_tone) x.tone) (one_tone_more ss) ∙ go (eqb x.tone no_tone)
    where
      go : (b : Bool) → tones_if b x.tone (tones_in ss ++ (s.tone ∷ [])) ≡ tones_if b x.tone (tones_in ss) ++ (s.tone ∷ [])
      go true = refl
      go false = refl

  first_place : (ss : List Sign) → tones_in ss ≡ [] → tone_place_in (ss ++ (s ∷ [])) ≡ Some (length ss)
  first_place [] h = ap (λ (b : Bool). place_if b None) (ne_eqb s.tone no_tone e)
  first_place (x ∷ ss) h = go (eqb x.tone no_tone) (first_place ss) h
    where
      go : (b : Bool) → (tones_in ss ≡ [] → tone_place_in (ss ++ (s ∷ [])) ≡ Some (length ss)) → tones_if b x.tone (tones_in ss) ≡ [] → place_if b (tone_place_in (ss ++ (s ∷ []))) ≡ Some (suc (length ss))
      go true f k = ap one_on (f k)
      go false f k = let z : ◌≡◌ {A = ℕ} 0 1 = cc in absurd (omega arith)

-- behind a letter that carries a tone
place_stays : (ss : List Sign) (s : Sign) → (tone_in ss ≡ no_tone → ⊥) → tone_place_in (ss ++ (s ∷ [])) ≡ tone_place_in ss
place_stays [] s h = absurd (h refl)
place_stays (x ∷ ss) s h = go (eqb x.tone no_tone) (place_stays ss s) h
  where
    go : (b : Bool) → ((tone_in ss ≡ no_tone → ⊥) → tone_place_in (ss ++ (s ∷ [])) ≡ tone_place_in ss) → (first_tone (tones_if b x.tone (tones_in ss)) ≡ no_tone → ⊥)
        → place_if b (tone_place_in (ss ++ (s ∷ []))) ≡ place_if b (tone_place_in ss)
    go true f k = ap one_on (f k)
    go false f k = refl

first_stays : (ts us : List ℕ) → (first_tone ts ≡ no_tone → ⊥) → first_tone (ts ++ us) ≡ first_tone ts
first_stays [] us h = absurd (h refl)
first_stays (t ∷ ts) us h = refl

two_then : (ts : List ℕ) (u : ℕ) → (first_tone ts ≡ no_tone → ⊥) → two_tones (ts ++ (u ∷ [])) ≡ true
two_then [] u h = absurd (h refl)
two_then (t ∷ []) u h = refl
two_then (t ∷ v ∷ ts) u h = refl

-- where the tone is 0 no letter carries one
pub none_carried : (ss : List Sign) → tone_in ss ≡ no_tone → tones_in ss ≡ []
none_carried [] e = refl
none_carried (x ∷ ss) e = go (eqb x.tone no_tone) refl (none_carried ss) e
  where
    go : (b : Bool) → eqb x.tone no_tone ≡ b → (tone_in ss ≡ no_tone → tones_in ss ≡ []) → first_tone (tones_if b x.tone (tones_in ss)) ≡ no_tone → tones_if b x.tone (tones_in ss) ≡ []
    go true k f h = f h
    go false k f h = absurd (eqb-false x.tone no_tone k h)

-- what is counted of one letter more
abbrev pub counted : ℕ → ReadSoFar → ReadSoFar
counted l r = record { at = r.at + l; count = r.count + 1; tone = r.tone; place = r.place; twice = r.twice }

-- the reading with one letter more, by the tone on it and the tone before
module _ (r : ReadSoFar) (ss : List Sign) (s : Sign) (t l : ℕ) (held : r ≡ reading_of r.at ss) (e : t ≡ s.tone) where
  abbrev more : List Sign
  more = ss ++ (s ∷ [])

  count_more : r.count + 1 ≡ length more
  count_more = ap (λ (z : ReadSoFar). z.count + 1) held ∙ sym (length-append ss (s ∷ []))

  pub untoned : t ≡ no_tone → counted l r ≡ reading_of (r.at + l) more
  untoned z =
      let tones = sym (still_tones s (sym e ∙ z) ss) in
      let place = ap (λ (x : ReadSoFar). x.place) held ∙ sym (still_place s (sym e ∙ z) ss) in
      let tone = ap (λ (x : ReadSoFar). x.tone) held ∙ ap first_tone tones in
      let twice = ap (λ (x : ReadSoFar). x.twice) held ∙ ap two_tones tones in
      λ j. record { at = r.at + l; count = count_more j; tone = tone j; place = place j; twice = twice j }

  pub toned_again : (t ≡ no_tone → ⊥) → (r.tone ≡ no_tone → ⊥)
      → counted l (record r { twice = true }) ≡ reading_of (r.at + l) more
  toned_again n h =
      let before : r.tone ≡ tone_in ss = ap (λ (x : ReadSoFar). x.tone) held in
      let some : (tone_in ss ≡ no_tone → ⊥) = λ z. h (before ∙ z) in
      let tones = sym (one_tone_more s (λ z. n (e ∙ z)) ss) in
      let place = ap (λ (x : ReadSoFar). x.place) held ∙ sym (place_stays ss s some) in
      let tone = before ∙ sym (first_stays (tones_in ss) (s.tone ∷ []) some) ∙ ap first_tone tones in
      let twice = sym (two_then (tones_in ss) s.tone some) ∙ ap two_tones tones in
      λ j. record { at = r.at + l; count = count_more j; tone = tone j; place = place j; twice = twice j }

  pub first_toned : (t ≡ no_tone → ⊥) → r.tone ≡ no_tone
      → counted l (record r { tone = t; place = Some r.count }) ≡ reading_of (r.at + l) more
  first_toned n h =
      let none : tones_in ss ≡ [] = none_carried ss (sym (ap (λ (x : ReadSoFar). x.tone) held) ∙ h) in
      let tones = ap (λ (ts : List ℕ). ts ++ (s.tone ∷ [])) (sym none) ∙ sym (one_tone_more s (λ z. n (e ∙ z)) ss) in
      let place = ap (λ (x : ReadSoFar). Some x.count) held ∙ sym (first_place s (λ z. n (e ∙ z)) ss none) in
      let tone = e ∙ ap first_tone tones in
      let twice = ap (λ (x : ReadSoFar). x.twice) held ∙ ap two_tones none ∙ ap two_tones tones in
      λ j. record { at = r.at + l; count = count_more j; tone = tone j; place = place j; twice = twice j }
