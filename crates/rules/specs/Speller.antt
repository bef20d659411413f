-- 11 The speller (docs/RULES.md): the standard key list, a shown text read back, and its fault.
use Rattle.std.specs.Prelude.{Bool, true, false, ◌&&◌, ◌||◌, List, [], ◌∷◌, ◌++◌, ℕ, zero, suc, ◌-◌, eqb, length}
use Prim.Native.Char.{code}
use Rattle.rules.specs.Letters.{Letter, Letters, plain, circumflex, breve, horn, stroke, no_tone, acute, grave, hook, tilde, dot, telex, named, is}
use Rattle.rules.specs.TakingApart.{verdict}
use Rattle.rules.specs.CodePoints.{Sign, point, utf8, signs, alphabet}

-- 11.1 A letter is spelled by its base as a key, in the letter's own case.
abbrev pub key_in_case : Bool → ℕ → ℕ
key_in_case true b = b - 32
key_in_case false b = b

abbrev pub key_of_letter : Letter → ℕ
key_of_letter x = key_in_case x.capital x.base

-- 11.2 Each shape has its key in a mode; for the Telex circumflex it is the base of the letter.
abbrev pub key_for : List (ℕ × ℕ) → ℕ → ℕ
key_for [] n = 0
key_for (x ∷ xs) n = elim (eqb n x.0) [ true ↦ x.1 | false ↦ key_for xs n ]

abbrev pub telex_shape_keys : ℕ → List (ℕ × ℕ)
telex_shape_keys base = (circumflex, base) ∷ (horn, code "w") ∷ (breve, code "w") ∷ (stroke, code "d") ∷ []

abbrev pub vni_shape_keys : List (ℕ × ℕ)
vni_shape_keys = (circumflex, code "6") ∷ (horn, code "7") ∷ (breve, code "8") ∷ (stroke, code "9") ∷ []

abbrev pub shape_key : ℕ → Letter → ℕ
shape_key mode x = elim (eqb mode telex) [ true ↦ key_for (telex_shape_keys x.base) x.shape | false ↦ key_for vni_shape_keys x.shape ]

-- 11.3 Directly after a letter with a shape stands its shape key. But ư has none where ơ comes next: the key after
-- the ơ is for both.
abbrev pub awaits_o : Letter → Letters → Bool
awaits_o x [] = false
awaits_o x (z ∷ zs) = is x (named (code "ư")) && is z (named (code "ơ"))

abbrev pub keys_after : ℕ → Letter → Letters → List ℕ
keys_after mode x xs = elim (eqb x.shape plain || awaits_o x xs) [ true ↦ [] | false ↦ shape_key mode x ∷ [] ]

abbrev pub letter_keys : ℕ → Letters → List ℕ
letter_keys mode [] = []
letter_keys mode (x ∷ xs) = key_of_letter x ∷ (keys_after mode x xs ++ letter_keys mode xs)

-- 11.4 The standard key list is the letters, with their shape keys, and then the tone key, if there is a tone. Shape
-- and tone keys are small.
abbrev pub telex_tone_keys : List (ℕ × ℕ)
telex_tone_keys = (acute, code "s") ∷ (grave, code "f") ∷ (hook, code "r") ∷ (tilde, code "x") ∷ (dot, code "j") ∷ []

abbrev pub vni_tone_keys : List (ℕ × ℕ)
vni_tone_keys = (acute, code "1") ∷ (grave, code "2") ∷ (hook, code "3") ∷ (tilde, code "4") ∷ (dot, code "5") ∷ []

abbrev pub tone_key : ℕ → ℕ → ℕ
tone_key mode t = elim (eqb mode telex) [ true ↦ key_for telex_tone_keys t | false ↦ key_for vni_tone_keys t ]

abbrev pub tone_keys : ℕ → ℕ → List ℕ
tone_keys mode t = elim (eqb t no_tone) [ true ↦ [] | false ↦ tone_key mode t ∷ [] ]

unfoldable pub standard_keys : ℕ → Letters → ℕ → List ℕ
standard_keys mode w t = letter_keys mode w ++ tone_keys mode t

-- 11.5 A letter of the alphabet starts at a byte of the text when its bytes stand there.
abbrev pub starts : List ℕ → List ℕ → Bool
starts [] bs = true
starts (c ∷ cs) [] = false
starts (c ∷ cs) (b ∷ bs) = elim (eqb c b) [ true ↦ starts cs bs | false ↦ false ]

pub data Front : Type 0 where
  no_letter : Front
  a_letter : Sign → Front

abbrev pub front_in : List Sign → List ℕ → Front
front_in [] bs = no_letter
front_in (s ∷ ss) bs = elim (starts (utf8 (point s)) bs) [ true ↦ a_letter s | false ↦ front_in ss bs ]

unfoldable pub letter_at : List ℕ → Front
letter_at bs = front_in alphabet bs

-- 11.6 A text is read from its front, letter after letter. Where no letter starts the reading ends with the place of
-- this byte, from 0.
pub data Reading : Type 0 where
  stuck_at : ℕ → Reading
  reading : List Sign → Reading

abbrev pub and_then : Sign → Reading → Reading
and_then s (stuck_at n) = stuck_at n
and_then s (reading ss) = reading (s ∷ ss)

abbrev pub more_bytes : List ℕ → ℕ
more_bytes [] = 0
more_bytes (b ∷ bs) = length bs

abbrev pub go_on : ℕ → (ℕ → Reading) → Front → Reading
go_on at further no_letter = stuck_at at
go_on at further (a_letter s) = and_then s (further (more_bytes (utf8 (point s))))

-- from a place on, where so many bytes still belong to the letter just read
abbrev pub read_from : ℕ → ℕ → List ℕ → Reading
read_from more at [] = reading []
read_from (suc more) at (b ∷ bs) = read_from more (suc at) bs
read_from zero at (b ∷ bs) = go_on at (λ more. read_from more (suc at) bs) (letter_at (b ∷ bs))

unfoldable pub read : List ℕ → Reading
read bs = read_from 0 0 bs

-- 11.7 What is read has letters, and the tones that stand on them; its tone is the first of these, or 0.
abbrev pub letters_in : List Sign → Letters
letters_in [] = []
letters_in (s ∷ ss) = s.letter ∷ letters_in ss

abbrev pub tones_in : List Sign → List ℕ
tones_in [] = []
tones_in (s ∷ ss) = elim (eqb s.tone no_tone) [ true ↦ tones_in ss | false ↦ s.tone ∷ tones_in ss ]

abbrev pub first_tone : List ℕ → ℕ
first_tone [] = no_tone
first_tone (t ∷ ts) = t

abbrev pub tone_in : List Sign → ℕ
tone_in ss = first_tone (tones_in ss)

abbrev pub two_tones : List ℕ → Bool
two_tones [] = false
two_tones (t ∷ []) = false
two_tones (t ∷ u ∷ us) = true

abbrev pub same_tones : List Sign → List Sign → Bool
same_tones [] [] = true
same_tones [] (z ∷ zs) = false
same_tones (s ∷ ss) [] = false
same_tones (s ∷ ss) (z ∷ zs) = eqb s.tone z.tone && same_tones ss zs

-- 11.8 The fault is 8 where two letters or more carry a tone. Else it is the verdict, where that is not 0. Else it is
-- 9 where the tone is on another letter than where the word would show it. Else it is 0, and the text is a syllable
-- as shown.
abbrev pub fault : List Sign → ℕ
fault ss =
    elim (two_tones (tones_in ss)) [
      | true ↦ 8
      | false ↦ elim (eqb (verdict (letters_in ss) (tone_in ss)) 0) [
        | false ↦ verdict (letters_in ss) (tone_in ss)
        | true ↦ elim (same_tones ss (signs (letters_in ss) (tone_in ss))) [ true ↦ 0 | false ↦ 9 ]
      ]
    ]

-- 11.9 What is spelled is the standard key list of the letters and the tone that were read.
abbrev pub spelled : ℕ → List Sign → List ℕ
spelled mode ss = standard_keys mode (letters_in ss) (tone_in ss)
