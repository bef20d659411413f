-- The letters of each valid syllable as shown: of the alphabet, with the tone on a vowel letter; its letters and its tone are found in them again.
use Rattle.std.specs.Prelude.{Option, Some, None}
use mathlib.Core.Path.{◌≡◌, refl, sym, ap, subst, ◌∙◌}
use mathlib.Core.Bool.{Bool, true, false, not, ◌&&◌, ◌||◌}
use mathlib.Core.List.{List, [], ◌∷◌}
use Prim.Native.Nat.{ℕ, zero, suc, ◌+◌, ◌≤◌}
use lib.Dec.{T, eqb, eqb→eq}
use lib.ListN.{length}
use lib.Ieee.Fits.{and_i, and_l, and_r}
use Rattle.rules.specs.Letters.{Letter, Letters, no_tone, acute, dot, is_nil}
use Rattle.rules.specs.TakingApart.{vowel, implies, initial, nucleus, final, leftovers, joins, fit, initials, finals, rows, verdict}
use Rattle.rules.specs.TonePlace.{place_within, place_unless, tone_place}
use Rattle.rules.specs.CodePoints.{Sign, sign, without_tone, tone_at, signs_at, signs}
use Rattle.rules.specs.Speller.{letters_in, tones_in, first_tone, tone_in, two_tones}
use Rattle.letters.specs.Alphabet.{in_alphabet}
use Rattle.forms.specs.Forms.{all_forms, every, EveryForm}
use Rattle.rules.specs.Syllables.{Syllable}
use Rattle.rules.proofs.Tests.{is_false}
use Rattle.rules.proofs.TonePlaces.{vowel_at}
use Rattle.forms.proofs.SomeAndEvery.{every_row}
use Rattle.forms.proofs.EachValid.{each_valid}
use Rattle.forms.proofs.TableLetters.{each_letter, each_letter_law}
use Rattle.forms.proofs.MarksAct.{six_tones}
use Rattle.forms.proofs.ReadBack.{all_in_alphabet}

-- a letter of the alphabet in both cases; a vowel with each tone
abbrev both_known : ℕ → ℕ → ℕ → Bool
both_known t b sh = in_alphabet (sign (record { base = b; shape = sh; capital = true }) t) && in_alphabet (sign (record { base = b; shape = sh; capital = false }) t)

abbrev all_tones : ℕ → ℕ → Bool
all_tones b sh = both_known 1 b sh && (both_known 2 b sh && (both_known 3 b sh && (both_known 4 b sh && both_known 5 b sh)))

abbrev known : ℕ → ℕ → Bool
known b sh = both_known no_tone b sh && implies (vowel b) (all_tones b sh)

known_initials : T (every (each_letter known) initials)
unfolding in_alphabet
known_initials = tt

known_nuclei : T (every_row (each_letter known) rows)
unfolding in_alphabet
known_nuclei = tt

known_finals : T (every (each_letter known) finals)
unfolding in_alphabet
known_finals = tt

letters_known : (w : Letters) (t : ℕ) → verdict w t ≡ 0 → T (each_letter known w)
letters_known = each_letter_law known known_initials known_nuclei known_finals

in_case_law : (x : Letter) (t : ℕ) → T (both_known t x.base x.shape) → T (in_alphabet (sign x t))
in_case_law x t h = go x.capital
  where
    go : (c : Bool) → T (in_alphabet (sign (record { base = x.base; shape = x.shape; capital = c }) t))
    go true = and_l (in_alphabet (sign (record { base = x.base; shape = x.shape; capital = true }) t)) (in_alphabet (sign (record { base = x.base; shape = x.shape; capital = false }) t)) h
    go false = and_r (in_alphabet (sign (record { base = x.base; shape = x.shape; capital = true }) t)) (in_alphabet (sign (record { base = x.base; shape = x.shape; capital = false }) t)) h

without_tone_law : (x : Letter) → T (known x.base x.shape) → T (in_alphabet (sign x no_tone))
without_tone_law x h = in_case_law x no_tone (and_l (both_known no_tone x.base x.shape) (implies (vowel x.base) (all_tones x.base x.shape)) h)

so : (p q : Bool) → T (implies p q) → T p → T q
so true q t u = t
so false q t u = elim u [ ]

with_tone : (x : Letter) (t : ℕ) → t ≤ dot → T (known x.base x.shape) → T (vowel x.base) → T (in_alphabet (sign x t))
with_tone x t m h v =
    let b = x.base in
    let sh = x.shape in
    let k : T (all_tones b sh) = so (vowel b) (all_tones b sh) (and_r (both_known no_tone b sh) (implies (vowel b) (all_tones b sh)) h) v in
    in_case_law x t (six_tones (λ n. T (both_known n b sh)) (search and_l) (search and_l) (search (and_l, and_r)) (search (and_l, and_r)) (search (and_l, and_r)) (search (and_l, and_r)) t m)

-- the letter on which the tone is shown is a vowel letter: computed over the forms, of a tone that is there
abbrev on_vowel : Option ℕ → Letters → Bool
on_vowel (Some n) w = vowel_at n w
on_vowel None w = false

abbrev placed : Letters → Bool
placed w = on_vowel (tone_place w acute) w

every_placed : EveryForm placed
unfolding all_forms tone_place initial nucleus final leftovers joins fit
every_placed cs = tt

same_place : (w : Letters) (t : ℕ) → T (not (eqb t no_tone)) → tone_place w t ≡ tone_place w acute
unfolding tone_place
same_place w t h =
    ap (λ (b : Bool). place_unless (b || is_nil (nucleus w)) (length (initial w) + place_within (nucleus w) (is_nil (final w) && is_nil (leftovers w)))) (is_false (eqb t no_tone) h)

no_place : (w : Letters) → tone_place w no_tone ≡ None
unfolding tone_place
no_place w = refl

-- the word shown: without a tone, or with it on a vowel letter
data AsShown (w : Letters) (t : ℕ) : List Sign → Type 0 where
  bare : t ≡ no_tone → AsShown w t (without_tone w)
  toned : (n : ℕ) → T (not (eqb t no_tone)) → T (vowel_at n w) → AsShown w t (tone_at n t w)

as_shown : (w : Letters) (t : ℕ) → verdict w t ≡ 0 → AsShown w t (signs w t)
as_shown w t v = go (eqb t no_tone) refl
  where
    at_place : (p : Option ℕ) → T (not (eqb t no_tone)) → T (on_vowel p w) → AsShown w t (signs_at p t w)
    at_place (Some n) h k = toned n h k
    at_place None h k = elim k [ ]

    go : (b : Bool) → eqb t no_tone ≡ b → AsShown w t (signs w t)
    go true e =
        let z : t ≡ no_tone = eqb→eq t no_tone (subst T (sym e) tt) in
        subst (λ (p : Option ℕ). AsShown w t (signs_at p t w)) (sym (ap (tone_place w) z ∙ no_place w)) (bare z)
    go false e =
        let h : T (not (eqb t no_tone)) = subst (λ (b : Bool). T (not b)) (sym e) tt in
        subst (λ (p : Option ℕ). AsShown w t (signs_at p t w)) (sym (same_place w t h)) (at_place (tone_place w acute) h (each_valid placed every_placed w t v))

-- each is of the alphabet
plain_known : (w : Letters) → T (each_letter known w) → T (all_in_alphabet (without_tone w))
plain_known [] h = tt
plain_known (x ∷ w) h =
    and_i (in_alphabet (sign x no_tone)) (all_in_alphabet (without_tone w)) (without_tone_law x (and_l (known x.base x.shape) (each_letter known w) h))
    (plain_known w (and_r (known x.base x.shape) (each_letter known w) h))

toned_known : (n t : ℕ) (w : Letters) → t ≤ dot → T (each_letter known w) → T (vowel_at n w) → T (all_in_alphabet (tone_at n t w))
toned_known zero t (x ∷ w) m h v =
    and_i (in_alphabet (sign x t)) (all_in_alphabet (without_tone w)) (with_tone x t m (and_l (known x.base x.shape) (each_letter known w) h) v)
    (plain_known w (and_r (known x.base x.shape) (each_letter known w) h))
toned_known (suc n) t (x ∷ w) m h v =
    and_i (in_alphabet (sign x no_tone)) (all_in_alphabet (tone_at n t w)) (without_tone_law x (and_l (known x.base x.shape) (each_letter known w) h))
    (toned_known n t w m (and_r (known x.base x.shape) (each_letter known w) h) v)
toned_known zero t [] m h v = elim v [ ]
toned_known (suc n) t [] m h v = elim v [ ]

known_so : {w : Letters} {t : ℕ} {ss : List Sign} → AsShown w t ss → t ≤ dot → T (each_letter known w) → T (all_in_alphabet ss)
known_so {w} (bare e) m h = plain_known w h
known_so {w} {t} (toned n c v) m h = toned_known n t w m h v

-- their letters are the word's
plain_letters : (w : Letters) → letters_in (without_tone w) ≡ w
plain_letters [] = refl
plain_letters (x ∷ w) = ap (◌∷◌ x) (plain_letters w)

toned_letters : (n t : ℕ) (w : Letters) → letters_in (tone_at n t w) ≡ w
toned_letters n t [] = refl
toned_letters zero t (x ∷ w) = ap (◌∷◌ x) (plain_letters w)
toned_letters (suc n) t (x ∷ w) = ap (◌∷◌ x) (toned_letters n t w)

pub letters_back : (w : Letters) (t : ℕ) → letters_in (signs w t) ≡ w
letters_back w t = go (tone_place w t)
  where
    go : (p : Option ℕ) → letters_in (signs_at p t w) ≡ w
    go (Some n) = toned_letters n t w
    go None = plain_letters w

-- and their one tone, if any, is the word's
no_tones : (w : Letters) → tones_in (without_tone w) ≡ []
no_tones [] = refl
no_tones (x ∷ w) = no_tones w

one_tone : (n t : ℕ) (w : Letters) → T (not (eqb t no_tone)) → T (vowel_at n w) → tones_in (tone_at n t w) ≡ t ∷ []
one_tone zero t (x ∷ w) h v =
    ap (λ (b : Bool). elim b [ true ↦ tones_in (without_tone w) | false ↦ t ∷ tones_in (without_tone w) ]) (is_false (eqb t no_tone) h) ∙ ap (◌∷◌ t) (no_tones w)
one_tone (suc n) t (x ∷ w) h v = one_tone n t w h v
one_tone zero t [] h v = elim v [ ]
one_tone (suc n) t [] h v = elim v [ ]

pub record Tones (t : ℕ) (ss : List Sign) : Type 0 where
  pub tone : tone_in ss ≡ t
  pub not_two : two_tones (tones_in ss) ≡ false

tones_so : {w : Letters} {t : ℕ} {ss : List Sign} → AsShown w t ss → Tones t ss
tones_so {w} (bare e) = record { tone = ap first_tone (no_tones w) ∙ sym e; not_two = ap two_tones (no_tones w) }
tones_so {w} {t} (toned n h v) = record { tone = ap first_tone (one_tone n t w h v); not_two = ap two_tones (one_tone n t w h v) }

module _ (w : Letters) (t : ℕ) (s : Syllable w t) where
  pub signs_known : T (all_in_alphabet (signs w t))
  signs_known = known_so (as_shown w t s.valid) s.tone (letters_known w t s.valid)

  pub tones_back : Tones t (signs w t)
  tones_back = tones_so (as_shown w t s.valid)
