-- Where the tone is shown, by numbers.
use mathlib.Core.Path.{◌≡◌, refl, sym, ap, ap₂, ◌∙◌}
use mathlib.Core.Bool.{Bool, true, false, not, ◌&&◌, ◌||◌}
use mathlib.Core.List.{List, [], ◌∷◌, ◌++◌, map}
use Prim.Native.Nat.{ℕ, zero, suc, ◌+◌, ◌≤◌, ◌%◌, ◌/◌}
use native.Mathlib.Omega.{arith}
use lib.Dec.{eqb}
use Rattle.std.specs.Prelude.{Option as Found, Some, None, unwrap_or, Option}
use lib.ListN.{length, length-append, length-map}
use borrow.Author.Tests.{eq-eqb, ne_eqb}
use Rattle.rules.specs.Letters.{Letters, is_nil}
use Rattle.rules.specs.TheWord.{letter}
use Rattle.rules.specs.TakingApart.{initial, nucleus, final, leftovers}
use Rattle.rules.specs.TonePlace.{or_here, last_shaped, by_count, or_by_count, place_within, place_unless, tone_place}
use Rattle.parts.specs.Ends.{parts_of}
use Rattle.parts.specs.declared.Parts.{Parts}
use Rattle.rules.proofs.Bools.{pick}
use Rattle.rules.proofs.Wholes.{whole}
use Rattle.rules.proofs.Searches.{IsLastPlace}
use Rattle.parts.proofs.Splits.{nil_length, cut}

-- a letter with a shape
abbrev pub is_shaped : ℕ → Bool
is_shaped n = not (eqb (n / 256 % 8) 0)

-- the last shaped letter, by what `rposition` finds, or the place by the count
abbrev found : Found ℕ → Option ℕ
found (Some i) = Some i
found None = None

last_is : (p : List ℕ) (r : Found ℕ) → IsLastPlace is_shaped p r → last_shaped (map letter p) ≡ found r
last_is [] (Some i) h = absurd (omega (arith, h.0))
last_is [] None h = refl
last_is (x ∷ xs) None h = ap₂ or_here (last_is xs None (λ k l. h (suc k) (omega arith))) (h 0 (omega arith))
last_is (x ∷ xs) (Some zero) h = ap₂ or_here (last_is xs None (λ k l. h.2 (suc k) (omega arith) (omega arith))) h.1
last_is (x ∷ xs) (Some (suc i)) h =
    ap (λ (o : Option ℕ). or_here o (is_shaped x)) (last_is xs (Some i) (omega (arith, h.0), h.1, λ k m l. h.2 (suc k) (omega arith) (omega arith)))

-- the place within a nucleus
module _ (p : List ℕ) (ends : Bool) where
  pub single : length p ≡ 1 → 0 ≡ place_within (map letter p) ends
  single e =
      λ j. pick 0 (sym (eq-eqb (length (map letter p)) 1 (length-map p letter ∙ e)) j) (or_by_count (last_shaped (map letter p)) (by_count (length (map letter p)) ends))

  not_single : (length p ≡ 1 → ⊥) → or_by_count (last_shaped (map letter p)) (by_count (length (map letter p)) ends) ≡ place_within (map letter p) ends
  not_single n =
      λ j. pick 0 (sym (ne_eqb (length (map letter p)) 1 (λ e. n (sym (length-map p letter) ∙ e))) j) (or_by_count (last_shaped (map letter p)) (by_count (length (map letter p)) ends))

  pub several : (length p ≡ 1 → ⊥) → (r : Found ℕ) → IsLastPlace is_shaped p r → (n : ℕ) → n ≡ by_count (length p) ends → unwrap_or r n ≡ place_within (map letter p) ends
  several m r h n e =
      with r n ∙ (λ j. or_by_count (sym (last_is p r h) j) ((e ∙ ap (λ (k : ℕ). by_count k ends) (sym (length-map p letter))) j)) ∙ not_single m
    where
      with : (o : Found ℕ) (k : ℕ) → unwrap_or o k ≡ or_by_count (found o) k
      with (Some i) k = refl
      with None k = refl

pub no_further : (p : List ℕ) (r : Found ℕ) → IsLastPlace is_shaped p r → (n : ℕ) → n ≤ length p → unwrap_or r n ≤ length p
no_further p (Some i) h n l = omega (arith, h.0)
no_further p None h n l = l

nil_both : (a b : Letters) → is_nil (a ++ b) ≡ (is_nil a && is_nil b)
nil_both [] b = refl
nil_both (x ∷ xs) b = refl

-- the place in the word, from its parts
module _ (s : List ℕ) (tone : ℕ) (r : Parts) (e : r ≡ parts_of (map letter s)) where
  abbrev w : Letters
  w = map letter s

  i_is : r.initial ≡ length (initial w)
  i_is = ap (λ (x : Parts). x.initial) e

  n_is : r.nucleus ≡ length (initial w) + length (nucleus w)
  n_is = ap (λ (x : Parts). x.nucleus) e

  -- nothing follows the nucleus
  ends_is : eqb r.nucleus (length s) ≡ (is_nil (final w) && is_nil (leftovers w))
  ends_is =
      let l : length (initial w) + (length (nucleus w) + length (final w ++ leftovers w)) ≡ length s = sym (simp length-append) ∙ ap length (whole w) ∙ length-map s letter in
      nil_length (final w ++ leftovers w) r.nucleus (length s) (omega (arith, n_is)) ∙ nil_both (final w) (leftovers w)

  abbrev within : ℕ
  within = place_within (nucleus w) (is_nil (final w) && is_nil (leftovers w))

  module _ (toned : (tone ≡ 0) → ⊥) where
    unless_is : (b : Bool) → eqb r.initial r.nucleus ≡ b → b ≡ (eqb tone 0 || is_nil (nucleus w))
    unless_is b t = sym t ∙ (cut s r e).none ∙ ap (λ (c : Bool). c || is_nil (nucleus w)) (sym (ne_eqb tone 0 toned))

    pub no_nucleus : r.initial ≡ r.nucleus → None ≡ tone_place w tone
    unfolding tone_place
    no_nucleus t = ap (λ (b : Bool). place_unless b (length (initial w) + within)) (unless_is true (eq-eqb r.initial r.nucleus t))

    pub somewhere : (k : ℕ) (ns : List ℕ) → map letter ns ≡ nucleus w → (r.initial ≡ r.nucleus → ⊥) → k ≡ place_within (map letter ns) (eqb r.nucleus (length s)) → Some (r.initial + k) ≡ tone_place w tone
    unfolding tone_place
    somewhere k ns a t ek = λ j. place_unless (unless_is false (ne_eqb r.initial r.nucleus t) j) (i_is j + (ek ∙ ap₂ place_within a ends_is) j)

pub no_tone_law : (w : Letters) (tone : ℕ) → tone ≡ 0 → None ≡ tone_place w tone
unfolding tone_place
no_tone_law w tone e = sym (ap (λ (t : ℕ). tone_place w t) e)
