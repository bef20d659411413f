-- Each letter of the alphabet is decoded from its bytes, whatever stands behind them: one computed test over the alphabet.
use mathlib.Core.Path.{◌≡◌, refl, sym, ap, subst}
use mathlib.Core.Bool.{Bool, true, false}
use mathlib.Core.List.{List, [], ◌∷◌, ◌++◌}
use Prim.Native.Nat.{ℕ}
use lib.Dec.{T, eqb→eq}
use lib.Ieee.Fits.{and_l, and_r}
use Rattle.rules.specs.CodePoints.{Sign, sign, alphabet, point, utf8}
use Rattle.rules.specs.Speller.{Front, no_letter, a_letter}
use Rattle.letters.specs.Alphabet.{some_sign, every_sign, same_sign, in_alphabet}
use Rattle.letters.specs.Rows.{point_table, letter_of}
use Rattle.letters.specs.Decoding.{found, decoded}
use Rattle.keys.proofs.Bools.{same_bool}

-- signs that the test cannot tell apart are equal
pub sign_eq : (s z : Sign) → T (same_sign s z) → s ≡ z
sign_eq s z t =
    let b : s.letter.base ≡ z.letter.base = eqb→eq s.letter.base z.letter.base (search and_l) in
    let h : s.letter.shape ≡ z.letter.shape = eqb→eq s.letter.shape z.letter.shape (search (and_l, and_r)) in
    let c : s.letter.capital ≡ z.letter.capital = same_bool s.letter.capital z.letter.capital (search (and_l, and_r)) in
    let n : s.tone ≡ z.tone = eqb→eq s.tone z.tone (search and_r) in
    λ j. sign (record { base = b j; shape = h j; capital = c j }) (n j)

-- a test over the whole alphabet holds at each letter of it
pub record Met (f g : Sign → Bool) : Type 0 where
  pub here : Sign
  pub one : T (f here)
  pub other : T (g here)

meet : (f g : Sign → Bool) (ss : List Sign) → T (some_sign f ss) → T (every_sign g ss) → Met f g
meet f g [] t u = absurd t
meet f g (s ∷ ss) t u = go (f s) refl t (λ v. meet f g ss v (and_r (g s) (every_sign g ss) u))
  where
    go : (b : Bool) → f s ≡ b → T (elim b [ true ↦ true | false ↦ some_sign f ss ]) → (T (some_sign f ss) → Met f g) → Met f g
    go true e v k = record { here = s; one = subst T (sym e) tt; other = and_l (g s) (every_sign g ss) u }
    go false e v k = k v

pub of_alphabet : (g : Sign → Bool) → T (every_sign g alphabet) → (s : Sign) → T (in_alphabet s) → T (g s)
unfolding in_alphabet
of_alphabet g u s t =
    let m = meet (same_sign s) g alphabet t u in
    subst (λ (z : Sign). T (g z)) (sym (sign_eq s m.here m.one)) m.other

-- Each letter is decoded from its bytes: computed over the alphabet, the bytes behind unknown.
abbrev finds : Sign → Front → Bool
finds s no_letter = false
finds s (a_letter z) = same_sign z s

abbrev decodes : List ℕ → Sign → Bool
decodes rest s = finds s (decoded (utf8 (point s) ++ rest))

all_decode : (rest : List ℕ) → T (every_sign (decodes rest) alphabet)
unfolding found point_table letter_of
all_decode rest = tt

finds_is : (s : Sign) (f : Front) → T (finds s f) → f ≡ a_letter s
finds_is s no_letter t = absurd t
finds_is s (a_letter z) t = ap a_letter (sign_eq z s t)

pub decodes_back : (s : Sign) (rest : List ℕ) → T (in_alphabet s) → decoded (utf8 (point s) ++ rest) ≡ a_letter s
decodes_back s rest t = finds_is s (decoded (utf8 (point s) ++ rest)) (of_alphabet (decodes rest) (all_decode rest) s t)
