-- One turn of the loop that makes a text, and its end: what is written and what is still to come are together the whole text.
use Rattle.std.specs.Prelude.{Option}
use mathlib.Core.Path.{◌≡◌, refl, sym, ap, ap₂, ◌∙◌}
use mathlib.Core.Bool.{Bool, true, false, ◌&&◌}
use mathlib.Core.List.{List, [], ◌∷◌, ◌++◌, append-nil, append_assoc}
use Prim.Native.Nat.{ℕ, suc, ◌+◌, ◌*◌, ◌≤◌, ◌<◌}
use native.Mathlib.Omega.{arith}
use lib.Dec.{lit≤, ltb}
use lib.ListN.{length, take, drop, get_or, take-append-drop, length-append, drop_of_length-le}
use lib.Seq.{sets, sets-eq, length-sets, length-take-le, take_at, drop_at, drop-cons, drop-drop}
use Rattle.rules.specs.Letters.{vni}
use Rattle.rules.specs.TheWord.{letter, at_front}
use Rattle.rules.specs.CodePoints.{sign, point, utf8}
use Rattle.letters.specs.Writing.{is_letter, tone_stands, letter_bytes}
use Rattle.show.specs.Filling.{tone_on, text_from}

-- a letter has at most three bytes
utf8_short : (c : ℕ) → length (utf8 c) ≤ 3
utf8_short c = go (ltb c 0x80) (ltb c 0x800) refl refl
  where
    go : (p q : Bool) → ltb c 0x80 ≡ p → ltb c 0x800 ≡ q → length (utf8 c) ≤ 3
    go true q e d = rw (utf8, e) (lit≤ tt)
    go false true e d = rw (utf8, e, d) (lit≤ tt)
    go false false e d = rw (utf8, e, d) (lit≤ tt)

three_at_most : (n t : ℕ) → length (letter_bytes n t) ≤ 3
unfolding letter_bytes
three_at_most n t = go (is_letter vni n && tone_stands n t)
  where
    go : (b : Bool) → length {A = ℕ} (elim b [ true ↦ utf8 (point (sign (letter n) t)) | false ↦ [] ]) ≤ 3
    go true = utf8_short (point (sign (letter n) t))
    go false = lit≤ tt

pub three_each : (p : Option ℕ) (t i : ℕ) (ns : List ℕ) → length (text_from p t i ns) ≤ 3 * length ns
three_each p t i [] = omega arith
three_each p t i (n ∷ ns) =
    let here = three_at_most n (tone_on p t i) in
    let more = three_each p t (suc i) ns in
    simp length-append (omega arith)

-- so far: the text in front, the rest as it was
pub record SoFar (p : Option ℕ) (t : ℕ) (letters old : List ℕ) (i at : ℕ) (text : List ℕ) : Type 0 where
  pub passed : i ≤ length letters
  pub within : at ≤ 3 * i
  pub long : length text ≡ length old
  pub front : take at text ++ text_from p t i (drop i letters) ≡ text_from p t 0 letters
  pub rest : drop at text ≡ drop at old

module _ (p : Option ℕ) (t : ℕ) (letters old : List ℕ) where
  pub begun : SoFar p t letters old 0 0 old
  begun = record { passed = omega arith; within = omega arith; long = refl; front = refl; rest = refl }

  module _ (i at : ℕ) (text : List ℕ) (so : SoFar p t letters old i at text) (room : 3 * length letters ≤ length old) where
    abbrev here : List ℕ
    here = letter_bytes (get_or letters i 0) (tone_on p t i)

    pub one_more : (n : ℕ) (next : List ℕ) → i < length letters → n ≡ at + length here → next ≡ sets text at here → SoFar p t letters old (i + 1) n next
    one_more n next h d s =
        let bs = here in
        let three = three_at_most (get_or letters i 0) (tone_on p t i) in
        let fits : at + length bs ≤ length text = omega (arith, so.long, so.within, room) in
        let split = s ∙ sets-eq bs text at fits in
        let long : length (take at text ++ bs) ≡ n = length-append (take at text) bs ∙ ap (λ (m : ℕ). m + length bs) (length-take-le at text (omega arith)) ∙ sym d in
        let one : i + 1 ≡ suc i = omega arith in
        record {
          passed = omega arith;
          within = omega (arith, d, so.within);
          long = ap length s ∙ length-sets text at bs ∙ so.long;
          front =
              ap (λ (l : List ℕ). l ++ text_from p t (i + 1) (drop (i + 1) letters)) (ap (take n) split ∙ take_at (take at text ++ bs) (drop (at + length bs) text) n long) ∙
              append_assoc (take at text) bs (text_from p t (i + 1) (drop (i + 1) letters)) ∙
              ap (◌++◌ (take at text))
              (ap (λ (j : ℕ). bs ++ text_from p t j (drop j letters)) one ∙ sym (ap (text_from p t i) (drop-cons letters i 0 h))) ∙
              so.front;
          rest =
              ap (drop n) split ∙ drop_at (take at text ++ bs) (drop (at + length bs) text) n long ∙ sym (drop-drop (length bs) at text) ∙ ap (drop (length bs)) so.rest ∙
              drop-drop (length bs) at old ∙ ap (λ (m : ℕ). drop m old) (sym d);
        }

    all_there : length letters ≤ i → take at text ≡ text_from p t 0 letters
    all_there h = sym (append-nil (take at text)) ∙ ap (λ (l : List ℕ). take at text ++ text_from p t i l) (sym (drop_of_length-le letters h)) ∙ so.front

    pub how_many : length letters ≤ i → at ≡ length (text_from p t 0 letters)
    how_many h = sym (length-take-le at text (omega (arith, so.long, so.within, so.passed, room))) ∙ ap length (all_there h)

    pub in_front : length letters ≤ i → text ≡ at_front (text_from p t 0 letters) old
    in_front h = sym (take-append-drop at text) ∙ ap₂ ◌++◌ (all_there h) (so.rest ∙ ap (λ (m : ℕ). drop m old) (how_many h))
