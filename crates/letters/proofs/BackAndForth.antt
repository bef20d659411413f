-- The alphabet written and read: 186 letters, each read back from what is written of it, and no other bytes read as a letter.
use Rattle.std.proofs.lemmas.Option.{same_Some}
use Rattle.std.specs.Prelude.{Option, Some}
use mathlib.Core.Path.{◌≡◌, refl, sym, ap, subst, ◌∙◌}
use mathlib.Core.Bool.{Bool, true, false, ◌&&◌}
use mathlib.Core.List.{List, [], ◌++◌}
use Prim.Native.Nat.{ℕ}
use native.Mathlib.Omega.{arith}
use lib.Dec.{T, eqb}
use lib.ListN.{length, drop}
use lib.Seq.{drop-append_seam}
use lib.Ieee.Fits.{and_l, and_r}
use Rattle.rules.specs.Letters.{vni}
use Rattle.rules.specs.TheWord.{letter, number}
use Rattle.rules.specs.CodePoints.{Sign, sign, alphabet, point, utf8}
use Rattle.rules.specs.Speller.{Front, letter_at}
use Rattle.letters.specs.declared.LetterRead.{LetterRead}
use Rattle.letters.specs.Alphabet.{every_sign, same_sign, in_alphabet, count_signs}
use Rattle.letters.specs.Writing.{is_letter, tone_stands, letter_bytes}
use Rattle.letters.specs.LettersRead.{read_of, read_at}
use Rattle.rules.proofs.Tests.{is_true}
use Rattle.letters.proofs.Fronts.{sign_eq, of_alphabet, decodes_back}
use Rattle.letters.proofs.Agrees.{starts_is, Shown, absent, present, shown, agree}

-- 52 letters of one byte, 44 of two, 90 of three: 186
abbrev of_bytes : ℕ → Sign → Bool
of_bytes n s = eqb (length (utf8 (point s))) n

pub one_byte_letters : count_signs (of_bytes 1) alphabet ≡ 52
one_byte_letters = refl

pub two_byte_letters : count_signs (of_bytes 2) alphabet ≡ 44
two_byte_letters = refl

pub three_byte_letters : count_signs (of_bytes 3) alphabet ≡ 90
three_byte_letters = refl

pub all_letters : length alphabet ≡ 186
all_letters = refl

-- each letter of the alphabet is written, as its bytes
abbrev writable : Sign → Bool
writable s =
    same_sign (sign (letter (number s.letter)) s.tone) s && (is_letter vni (number s.letter) && tone_stands (number s.letter) s.tone)

all_writable : T (every_sign writable alphabet)
all_writable = tt

pub is_written : (s : Sign) → T (in_alphabet s) → letter_bytes (number s.letter) s.tone ≡ utf8 (point s)
unfolding letter_bytes
is_written s k =
    let w = of_alphabet writable all_writable s k in
    let n : ℕ = number s.letter in
    ap (λ (b : Bool). elim b [ true ↦ utf8 (point (sign (letter n) s.tone)) | false ↦ [] ])
    (is_true (is_letter vni n && tone_stands n s.tone) (and_r (same_sign (sign (letter n) s.tone) s) (is_letter vni n && tone_stands n s.tone) w))
    ∙ ap (λ (z : Sign). utf8 (point z))
    (sign_eq (sign (letter n) s.tone) s (and_l (same_sign (sign (letter n) s.tone) s) (is_letter vni n && tone_stands n s.tone) w))

-- reading back what is written gives the letter again, whatever stands before and behind
abbrev letter_read : Sign → Option LetterRead
letter_read s = Some (record { number = number s.letter; tone = s.tone; length = length (utf8 (point s)) })

pub reads_back : (s : Sign) (before behind : List ℕ) → T (in_alphabet s) → read_at (before ++ (letter_bytes (number s.letter) s.tone ++ behind)) (length before) ≡ letter_read s
unfolding read_at
reads_back s before behind k =
    ap (λ (bs : List ℕ). read_of (letter_at bs)) (drop-append_seam before (letter_bytes (number s.letter) s.tone ++ behind))
    ∙ ap (λ (u : List ℕ). read_of (letter_at (u ++ behind))) (is_written s k)
    ∙ ap read_of (sym (agree (utf8 (point s) ++ behind)) ∙ decodes_back s behind k)

-- and no other bytes are read: whatever is read is a letter of the alphabet, and its bytes stand there
pub record Stood (text : List ℕ) (at n t l : ℕ) : Type 0 where
  pub shown_as : Sign
  pub known : T (in_alphabet shown_as)
  pub number_is : number shown_as.letter ≡ n
  pub tone_is : shown_as.tone ≡ t
  pub length_is : length (utf8 (point shown_as)) ≡ l
  pub stands : utf8 (point shown_as) ++ drop l (drop at text) ≡ drop at text

pub only_letters : (text : List ℕ) (at n t l : ℕ) → read_at text at ≡ Some (record { number = n; tone = t; length = l }) → Stood text at n t l
unfolding read_at
only_letters text at n t l e = go (shown (drop at text)) e
  where
    go : {f : Front} → Shown alphabet (drop at text) f → read_of f ≡ Some (record { number = n; tone = t; length = l }) → Stood text at n t l
    go (absent h) d = let z : ◌≡◌ {A = ℕ} 0 1 = cc in absurd (omega arith)
    go (present {s = s} k u) d =
        let same = same_Some {A = LetterRead} (record { number = number s.letter; tone = s.tone; length = length (utf8 (point s)) }) (record { number = n; tone = t; length = l }) d in
        let e : length (utf8 (point s)) ≡ l = ap (λ (x : LetterRead). x.length) same in
        record {
          shown_as = s;
          known = k;
          number_is = ap (λ (x : LetterRead). x.number) same;
          tone_is = ap (λ (x : LetterRead). x.tone) same;
          length_is = e;
          stands = subst (λ (m : ℕ). utf8 (point s) ++ drop m (drop at text) ≡ drop at text) e (starts_is (utf8 (point s)) (drop at text) u);
        }
