-- What the code decodes is what the definition finds, at the front of any text; and what is read at each place of a text.
use Rattle.std.specs.Prelude.{Option, Some, None}
use mathlib.Core.Path.{◌≡◌, refl, sym, ap, ap₂, subst, ◌∙◌}
use mathlib.Core.Bool.{Bool, true, false, not}
use mathlib.Core.List.{List, [], ◌∷◌, ◌++◌}
use Prim.Native.Nat.{ℕ, suc, ◌+◌, ◌-◌, ◌<◌, ◌≤◌}
use native.Mathlib.Numerals.{add-one}
use native.Mathlib.Omega.{arith}
use lib.Dec.{T, T_not, eqb, ltb}
use lib.ListN.{length, get_or, drop, length-drop, drop_of_length-le}
use lib.Seq.{take_all, drop-cons}
use lib.Ieee.Fits.{and_i, and_l, and_r}
use borrow.Author.Tests.{eqb-true, lt-ltb, le-ltb, ltb-true, ltb-false}
use Rattle.rules.specs.TheWord.{number}
use Rattle.rules.specs.CodePoints.{Sign, alphabet, point, utf8}
use Rattle.rules.specs.Speller.{starts, Front, no_letter, a_letter, front_in, letter_at}
use Rattle.letters.specs.declared.LetterRead.{LetterRead}
use Rattle.letters.specs.Alphabet.{every_sign, in_alphabet}
use Rattle.letters.specs.LettersRead.{read_of, read_at}
use Rattle.std.specs.List.{slice_range}
use Rattle.letters.specs.Decoding.{one_byte, two_bytes, three_bytes, third_of, second_of, decoded, read_as}
use Rattle.letters.proofs.Fronts.{of_alphabet, decodes_back}
use Rattle.letters.proofs.Stands.{Stands, none_there, one_there, stands_one, stands_two, stands_three}

-- bytes that start a text, and the rest of it
pub starts_is : (u bs : List ℕ) → T (starts u bs) → u ++ drop (length u) bs ≡ bs
starts_is [] bs t = refl
starts_is (c ∷ u) [] t = absurd t
starts_is (c ∷ u) (b ∷ bs) t = go (eqb c b) refl t (starts_is u bs)
  where
    go : (x : Bool) → eqb c b ≡ x → T (elim x [ true ↦ starts u bs | false ↦ false ]) → (T (starts u bs) → u ++ drop (length u) bs ≡ bs)
        → c ∷ (u ++ drop (length u) bs) ≡ b ∷ bs
    go true e v k = ap₂ (λ (y : ℕ) (ys : List ℕ). y ∷ ys) (eqb-true c b e) (k v)
    go false e v k = absurd v

-- what the definition finds: a letter of the alphabet whose bytes stand there, or none where no letter's do
abbrev unstarted : List ℕ → Sign → Bool
unstarted bs s = not (starts (utf8 (point s)) bs)

pub data Shown (ss : List Sign) (bs : List ℕ) : Front → Type 0 where
  absent : T (every_sign (unstarted bs) ss) → Shown ss bs no_letter
  present : {s : Sign} → T (in_alphabet s) → T (starts (utf8 (point s)) bs) → Shown ss bs (a_letter s)

shown_in : (ss : List Sign) (bs : List ℕ) → T (every_sign in_alphabet ss) → Shown ss bs (front_in ss bs)
shown_in [] bs k = absent tt
shown_in (s ∷ ss) bs k = go (starts (utf8 (point s)) bs) refl (shown_in ss bs (and_r (in_alphabet s) (every_sign in_alphabet ss) k))
  where
    go : (b : Bool) → starts (utf8 (point s)) bs ≡ b → {f : Front} → Shown ss bs f → Shown (s ∷ ss) bs (elim b [ true ↦ a_letter s | false ↦ f ])
    go true e v = present (and_l (in_alphabet s) (every_sign in_alphabet ss) k) (subst T (sym e) tt)
    go false e (absent h) = absent (and_i (unstarted bs s) (every_sign (unstarted bs) ss) (subst (λ (b : Bool). T (not b)) (sym e) tt) h)
    go false e (present h t) = present h t

all_known : T (every_sign in_alphabet alphabet)
unfolding in_alphabet
all_known = tt

pub shown : (bs : List ℕ) → Shown alphabet bs (letter_at bs)
unfolding letter_at
shown bs = shown_in alphabet bs all_known

-- what the code decodes stands there
stands_third : (a b : ℕ) (bs : List ℕ) → 0xE0 ≤ a → (n : ℕ) × Stands n (a ∷ b ∷ bs) (third_of a b bs)
stands_third a b [] l = (0, none_there)
stands_third a b (c ∷ cs) l = (3, stands_three a b c cs l)

stands_second : (a : ℕ) (bs : List ℕ) → (n : ℕ) × Stands n (a ∷ bs) (second_of a bs)
stands_second a [] = (0, none_there)
stands_second a (b ∷ bs) = go (ltb a 0xE0) refl
  where
    go : (t : Bool) → ltb a 0xE0 ≡ t → (n : ℕ) × Stands n (a ∷ b ∷ bs) (elim t [ true ↦ two_bytes a b | false ↦ third_of a b bs ])
    go true e = (2, stands_two a b bs (ltb-true a 0xE0 e))
    go false e = stands_third a b bs (ltb-false a 0xE0 e)

decoded_stands : (bs : List ℕ) → (n : ℕ) × Stands n bs (decoded bs)
decoded_stands [] = (0, none_there)
decoded_stands (a ∷ bs) = go (ltb a 0x80) refl
  where
    go : (t : Bool) → ltb a 0x80 ≡ t → (n : ℕ) × Stands n (a ∷ bs) (elim t [ true ↦ one_byte a | false ↦ second_of a bs ])
    go true e = (1, stands_one a bs (ltb-true a 0x80 e))
    go false e = stands_second a bs

-- so the two agree
none_decoded : {n : ℕ} {bs : List ℕ} {f : Front} → Stands n bs f → T (every_sign (unstarted bs) alphabet) → f ≡ no_letter
none_decoded none_there h = refl
none_decoded {bs = bs} (one_there {s = s} k t d) h = absurd (T_not (starts (utf8 (point s)) bs) (of_alphabet (unstarted bs) h s k) t)

pub agree : (bs : List ℕ) → decoded bs ≡ letter_at bs
agree bs = go (shown bs)
  where
    go : {f : Front} → Shown alphabet bs f → decoded bs ≡ f
    go (absent h) = none_decoded (decoded_stands bs).1 h
    go (present {s = s} k t) =
        subst (λ (v : List ℕ). decoded v ≡ a_letter s) (starts_is (utf8 (point s)) bs t) (decodes_back s (drop (length (utf8 (point s))) bs) k)

own : {n : ℕ} {bs : List ℕ} {f : Front} → Stands n bs f → read_as n f ≡ read_of f
own none_there = refl
own (one_there {s = s} k t d) = ap (λ (m : ℕ). Some (record { number = number s.letter; tone = s.tone; length = m })) (sym d)

reads : {n : ℕ} {f : Front} (bs : List ℕ) → Stands n bs f → decoded bs ≡ f → read_as n f ≡ read_of (letter_at bs)
reads bs v e = own v ∙ ap read_of (sym e ∙ agree bs)

-- at a place of a text, by the bytes that are left there
there : {r : Option LetterRead} (text : List ℕ) (at : ℕ) (bs : List ℕ) → drop at text ≡ bs → r ≡ read_of (letter_at bs) → r ≡ read_at text at
unfolding read_at
there text at bs e d = d ∙ ap (λ (v : List ℕ). read_of (letter_at v)) (sym e)

-- of the bytes that are left there, taken by themselves
pub at_front : (text : List ℕ) (at : ℕ) (bs : List ℕ) → bs ≡ slice_range text at (length text) → read_at bs 0 ≡ read_at text at
unfolding read_at
at_front text at bs e =
    let long : length (drop at text) ≤ length text - at = simp length-drop (omega arith) in
    ap (λ (v : List ℕ). read_of (letter_at v)) (e ∙ take_all (length text - at) (drop at text) long)

pub read_end : (text : List ℕ) (at : ℕ) → length text ≤ at → None ≡ read_at text at
read_end text at l = there text at [] (drop_of_length-le text l) (reads {n = 0} [] none_there refl)

module _ (text : List ℕ) (at : ℕ) (l : at < length text) where
  abbrev a : ℕ
  a = get_or text at 0

  abbrev b : ℕ
  b = get_or text (at + 1) 0

  abbrev c : ℕ
  c = get_or text (at + 2) 0

  from_one : drop at text ≡ a ∷ drop (at + 1) text
  from_one = drop-cons text at 0 l ∙ rw (add-one at)

  from_two : 2 ≤ length text - at → drop at text ≡ a ∷ b ∷ drop (at + 2) text
  from_two h =
      let e : suc (at + 1) ≡ at + 2 = omega arith in
      from_one ∙ ap (λ (v : List ℕ). a ∷ v) (drop-cons text (at + 1) 0 (omega arith) ∙ ap (λ (n : ℕ). b ∷ drop n text) e)

  from_three : 3 ≤ length text - at → drop at text ≡ a ∷ b ∷ c ∷ drop (suc (at + 2)) text
  from_three h = from_two (omega arith) ∙ ap (λ (v : List ℕ). a ∷ b ∷ v) (drop-cons text (at + 2) 0 (omega arith))

  pub read_one : a < 0x80 → read_as 1 (one_byte a) ≡ read_at text at
  read_one h = there text at (a ∷ drop (at + 1) text) from_one (reads (a ∷ drop (at + 1) text) (stands_one a (drop (at + 1) text) h) (rw (decoded, lt-ltb a 0x80 h)))

  module _ (h : 0x80 ≤ a) where
    past_one : (bs : List ℕ) → decoded (a ∷ bs) ≡ second_of a bs
    past_one bs = rw (decoded, le-ltb a 0x80 h)

    pub cut_at_one : length text - at < 2 → None ≡ read_at text at
    cut_at_one m =
        there text at (a ∷ []) (from_one ∙ ap (λ (v : List ℕ). a ∷ v) (drop_of_length-le text {i = at + 1} (omega arith)))
        (reads {n = 0} (a ∷ []) none_there (past_one []))

    pub read_two : 2 ≤ length text - at → a < 0xE0 → read_as 2 (two_bytes a b) ≡ read_at text at
    read_two m g =
        there text at (a ∷ b ∷ drop (at + 2) text) (from_two m)
        (reads (a ∷ b ∷ drop (at + 2) text) (stands_two a b (drop (at + 2) text) g) (past_one (b ∷ drop (at + 2) text) ∙ rw (second_of, lt-ltb a 0xE0 g)))

    module _ (g : 0xE0 ≤ a) (m : 2 ≤ length text - at) where
      past_two : (bs : List ℕ) → decoded (a ∷ b ∷ bs) ≡ third_of a b bs
      past_two bs = past_one (b ∷ bs) ∙ rw (second_of, le-ltb a 0xE0 g)

      pub cut_at_two : length text - at < 3 → None ≡ read_at text at
      cut_at_two k =
          there text at (a ∷ b ∷ []) (from_two m ∙ ap (λ (v : List ℕ). a ∷ b ∷ v) (drop_of_length-le text {i = at + 2} (omega arith)))
          (reads {n = 0} (a ∷ b ∷ []) none_there (past_two []))

      pub read_three : 3 ≤ length text - at → read_as 3 (three_bytes a b c) ≡ read_at text at
      read_three k =
          there text at (a ∷ b ∷ c ∷ drop (suc (at + 2)) text) (from_three k)
          (reads (a ∷ b ∷ c ∷ drop (suc (at + 2)) text) (stands_three a b c (drop (suc (at + 2)) text) g) (past_two (c ∷ drop (suc (at + 2)) text)))
