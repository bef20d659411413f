-- A text read letter by letter: where a letter starts it is read and the reading goes on behind it; else it is stuck there.
use Rattle.std.specs.Prelude.{Some, None}
use mathlib.Core.Path.{◌≡◌, refl, sym, ap, ap₂, subst, ◌∙◌}
use mathlib.Core.Bool.{Bool, true}
use mathlib.Core.List.{List, [], ◌∷◌, ◌++◌, map, map-append}
use Prim.Native.Nat.{ℕ, zero, suc, ◌+◌, ◌≤◌, ◌<◌}
use native.Mathlib.Numerals.{add-one}
use native.Mathlib.Omega.{arith}
use lib.Dec.{T, ltb}
use lib.ListN.{length, take, drop, set, length-append, length-drop, length-set, drop_of_length-le}
use lib.Seq.{drop-cons, drop-drop, take-suc-set}
use borrow.Author.Tests.{ltb-true}
use lib.Ieee.Fits.{and_i, and_l, and_r}
use Rattle.rules.specs.Letters.{Letter, Letters}
use Rattle.rules.specs.TheWord.{most_bytes, letter, number}
use Rattle.rules.specs.CodePoints.{Sign, sign, point, utf8}
use Rattle.rules.specs.Speller.{Front, no_letter, a_letter, letter_at, stuck_at, reading, and_then, more_bytes, go_on, read_from, read, letters_in}
use Rattle.rules.specs.Speller as Paper
use Rattle.letters.specs.Alphabet.{same_sign}
use Rattle.letters.specs.Decoding.{decoded}
use Rattle.letters.specs.LettersRead.{read_of, read_at}
use Rattle.rules.proofs.Tests.{is_true}
use Rattle.letters.proofs.Fronts.{sign_eq, of_alphabet, decodes_back}
use Rattle.letters.proofs.Agrees.{agree}
use Rattle.letters.proofs.BackAndForth.{Stood, only_letters}
use Rattle.speller.specs.declared.ReadSoFar.{ReadSoFar}
use Rattle.speller.specs.TextRead.{reading_of, have_capitals, SoFar, ReadInto}

-- each letter of the alphabet is read again from its number, has a capital, and has at least one byte
abbrev stored : Sign → Bool
stored s = same_sign (sign (letter (number s.letter)) s.tone) s

abbrev has_capital : Sign → Bool
has_capital s = ltb 31 s.letter.base

abbrev has_byte : Sign → Bool
has_byte s = ltb 0 (length (utf8 (point s)))

-- passing over the further bytes of a letter
pass_over : (more at : ℕ) (bs : List ℕ) → read_from more at bs ≡ read_from 0 (at + more) (drop more bs)
pass_over zero at bs = let e : at ≡ at + 0 = omega arith in ap (λ (n : ℕ). read_from 0 n bs) e
pass_over (suc more) at [] = refl
pass_over (suc more) at (b ∷ bs) = let e : suc at + more ≡ at + suc more = omega arith in pass_over more (suc at) bs ∙ ap (λ (n : ℕ). read_from 0 n (drop more bs)) e

further : (u : List ℕ) → 0 < length u → suc (more_bytes u) ≡ length u
further [] h = absurd (omega arith)
further (b ∷ u) h = refl

module _ (text : List ℕ) (at : ℕ) (l : at < length text) where
  abbrev behind : List ℕ
  behind = drop (suc at) text

  from_here : (f : Front) → letter_at (drop at text) ≡ f → read_from 0 at (drop at text) ≡ go_on at (λ more. read_from more (suc at) behind) f
  from_here f e =
      let split = drop-cons text at 0 l in
      ap (read_from 0 at) split ∙ ap (go_on at (λ more. read_from more (suc at) behind)) (ap letter_at (sym split) ∙ e)

  goes_on : (s : Sign) → 0 < length (utf8 (point s)) → letter_at (drop at text) ≡ a_letter s
      → read_from 0 at (drop at text) ≡ and_then s (read_from 0 (at + length (utf8 (point s))) (drop (at + length (utf8 (point s))) text))
  goes_on s h e =
      let more = more_bytes (utf8 (point s)) in
      let k : suc at + more ≡ at + length (utf8 (point s)) = omega (arith, further (utf8 (point s)) h) in
      from_here (a_letter s) e ∙
      ap (and_then s) (pass_over more (suc at) behind ∙ ap (read_from 0 (suc at + more)) (drop-drop more (suc at) text) ∙ ap (λ (n : ℕ). read_from 0 n (drop n text)) k)

-- what is read so far in front of what is still to be read
abbrev after : List Sign → Paper.Reading → Paper.Reading
after [] r = r
after (s ∷ ss) r = and_then s (after ss r)

after_one : (ss : List Sign) (s : Sign) (r : Paper.Reading) → after ss (and_then s r) ≡ after (ss ++ (s ∷ [])) r
after_one [] s r = refl
after_one (x ∷ ss) s r = ap (and_then x) (after_one ss s r)

after_stuck : (ss : List Sign) (n : ℕ) → after ss (stuck_at n) ≡ stuck_at n
after_stuck [] n = refl
after_stuck (x ∷ ss) n = ap (and_then x) (after_stuck ss n)

after_end : (ss : List Sign) → after ss (reading []) ≡ reading ss
after_end [] = refl
after_end (x ∷ ss) = ap (and_then x) (after_end ss)

-- one letter more at the end
letters_more : (ss : List Sign) (s : Sign) → letters_in ss ++ (s.letter ∷ []) ≡ letters_in (ss ++ (s ∷ []))
letters_more [] s = refl
letters_more (x ∷ ss) s = ap (◌∷◌ x.letter) (letters_more ss s)

capitals_more : (ss : List Sign) (s : Sign) → T (have_capitals (letters_in ss)) → T (ltb 31 s.letter.base) → T (have_capitals (letters_in (ss ++ (s ∷ []))))
capitals_more [] s t u = and_i (ltb 31 s.letter.base) true u tt
capitals_more (x ∷ ss) s t u =
    let first = ltb 31 x.letter.base in
    and_i first (have_capitals (letters_in (ss ++ (s ∷ [])))) (and_l first (have_capitals (letters_in ss)) t) (capitals_more ss s (and_r first (have_capitals (letters_in ss)) t) u)

-- no letter read is no letter there
no_front : (f : Front) → None ≡ read_of f → f ≡ no_letter
no_front no_letter e = refl
no_front (a_letter s) e = let z : ◌≡◌ {A = ℕ} 0 1 = cc in absurd (omega arith)

-- the reading at a turn of the loop
pub record Going (text ns : List ℕ) (r : ReadSoFar) : Type 0 where
  pub so_far : SoFar text ns r
  pub room : length ns ≡ most_bytes
  pub onward : read text ≡ after so_far.signs (read_from 0 r.at (drop r.at text))

pub begins : (text ns : List ℕ) → length ns ≡ most_bytes → Going text ns (reading_of 0 [])
unfolding read
begins text ns e =
    record { so_far = record { signs = []; held = refl; letters = refl; capitals = tt; fewer = omega arith; within = omega arith }; room = e; onward = refl }

module _ {text ns : List ℕ} {r : ReadSoFar} (g : Going text ns r) where
  abbrev ss : List Sign
  ss = g.so_far.signs

  -- the end of the text, or a place where no letter starts
  pub at_end : length text ≤ r.at → ReadInto text ns r
  at_end h =
      record {
        so_far = g.so_far;
        stuck = λ l. absurd (omega arith);
        whole = λ l. g.onward ∙ ap (λ (bs : List ℕ). after ss (read_from 0 r.at bs)) (drop_of_length-le text h) ∙ after_end ss;
      }

  pub sticks : r.at < length text → None ≡ read_at text r.at → ReadInto text ns r
  unfolding read_at
  sticks l e =
      record {
        so_far = g.so_far;
        stuck = λ h. g.onward ∙ ap (after ss) (from_here text r.at l no_letter (no_front (letter_at (drop r.at text)) e)) ∙ after_stuck ss r.at;
        whole = λ h. absurd (omega arith);
      }

  -- a letter that is read
  module _ (l : r.at < length text) {n t k : ℕ} (e : read_at text r.at ≡ Some (record { number = n; tone = t; length = k })) where
    -- what the next letter leaves of the reading (`ReadSoFar::add`)
    abbrev Longer : ReadSoFar → Type 0
    Longer next = (us : List Sign) (s : Sign) → r ≡ reading_of r.at us → t ≡ s.tone → next ≡ reading_of (r.at + k) (us ++ (s ∷ []))

    there : Stood text r.at n t k
    there = only_letters text r.at n t k e

    abbrev read_there : Sign
    read_there = there.shown_as

    long : 0 < length (utf8 (point read_there))
    long = ltb-true 0 (length (utf8 (point read_there))) (is_true (has_byte read_there) (of_alphabet has_byte tt read_there there.known))

    pub within_text : (0 < k) × (r.at + k ≤ length text)
    within_text =
        let shown = simp (length-append, length-drop) at (ap length there.stands) in
        (omega (arith, long, there.length_is), omega (arith, shown, l, there.length_is))

    is_letter : letter n ≡ read_there.letter
    is_letter = ap letter (sym there.number_is) ∙ ap (λ (s : Sign). s.letter) (sign_eq (sign (letter (number read_there.letter)) read_there.tone) read_there (of_alphabet stored tt read_there there.known))

    starts_here : letter_at (drop r.at text) ≡ a_letter read_there
    starts_here = sym (agree (drop r.at text)) ∙ ap decoded (sym there.stands) ∙ decodes_back read_there (drop k (drop r.at text)) there.known

    abbrev more : List Sign
    more = ss ++ (read_there ∷ [])

    longer : (next : ReadSoFar) → Longer next → next ≡ reading_of (r.at + k) more
    longer next law = law ss read_there g.so_far.held (sym there.tone_is)

    pub moves_on : (next : ReadSoFar) → Longer next → next.at ≡ r.at + k
    moves_on next law = ap (λ (x : ReadSoFar). x.at) (longer next law)

    pub one_more : (next : ReadSoFar) → Longer next → length text ≤ most_bytes → Going text (set ns r.count n) next
    one_more next law few =
        let before = g.so_far in
        let count : r.count ≡ length ss = ap (λ (x : ReadSoFar). x.count) before.held in
        let counted : length more ≡ suc r.count = length-append ss (read_there ∷ []) ∙ add-one (length ss) ∙ ap suc (sym count) in
        let here : r.count < length ns = omega (arith, g.room, before.fewer) in
        subst (λ (x : ReadSoFar). Going text (set ns r.count n) x) (sym (longer next law))
        (record {
          so_far = record {
            signs = more;
            held = refl;
            letters =
                ap (λ (m : ℕ). map letter (take m (set ns r.count n))) counted ∙ ap (map letter) (take-suc-set ns r.count n here) ∙ map-append letter (take r.count ns) (n ∷ []) ∙
                ap₂ (λ (w : Letters) (x : Letter). w ++ (x ∷ [])) before.letters is_letter ∙ letters_more ss read_there;
            capitals = capitals_more ss read_there before.capitals (of_alphabet has_capital tt read_there there.known);
            fewer = omega (arith, counted, before.fewer, within_text.0);
            within = within_text.1;
          };
          room = length-set ns r.count n ∙ g.room;
          onward =
              g.onward ∙ ap (after ss) (goes_on text r.at l read_there long starts_here) ∙
              ap (λ (m : ℕ). after ss (and_then read_there (read_from 0 (r.at + m) (drop (r.at + m) text)))) there.length_is ∙
              after_one ss read_there (read_from 0 (r.at + k) (drop (r.at + k) text));
        })
