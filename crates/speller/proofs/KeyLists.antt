-- The key list as it is put together: a key of a table, the keys of one letter and what is left to put, the tone key last.
use mathlib.Core.Path.{◌≡◌, sym, ap, ◌∙◌}
use mathlib.Core.Bool.{Bool, true, false, ◌||◌}
use mathlib.Core.List.{List, [], ◌∷◌, ◌++◌, map, append_assoc, append-nil}
use Prim.Native.Nat.{ℕ, zero, suc, ◌+◌, ◌*◌, ◌≤◌, ◌<◌}
use native.Mathlib.Numerals.{add-one}
use native.Mathlib.Omega.{arith}
use lib.Dec.{T, eqb, ltb, lit≤}
use lib.ListN.{length, take, drop, get_or, drop_of_length-le}
use lib.Seq.{drop-cons}
use lib.Ieee.Fits.{and_l, and_r}
use borrow.Author.Tests.{ltb-true, ne_eqb}
use Rattle.rules.proofs.Tests.{is_true}
use Rattle.rules.specs.Letters.{Letter, Letters, plain, no_tone}
use Rattle.rules.specs.TheWord.{letter}
use Rattle.rules.specs.Speller.{key_of_letter, shape_key, awaits_o, keys_after, letter_keys, tone_key, tone_keys, standard_keys}
use Rattle.speller.specs.TextRead.{have_capitals}
use Rattle.speller.specs.KeysPut.{Puts, held}
use Rattle.speller.specs.declared.key_list.KeyList.{KeyList}

-- a letter of a list has a capital 32 below it
pub has_capital : (ns : List ℕ) (i : ℕ) → i < length ns → T (have_capitals (map letter ns)) → 32 ≤ (letter (get_or ns i 0)).base
has_capital [] i h t = absurd (omega arith)
has_capital (n ∷ ns) zero h t = omega (arith, ltb-true 31 (letter n).base (is_true (ltb 31 (letter n).base) (and_l (ltb 31 (letter n).base) (have_capitals (map letter ns)) t)))
has_capital (n ∷ ns) (suc i) h t = has_capital ns i (omega arith) (and_r (ltb 31 (letter n).base) (have_capitals (map letter ns)) t)

-- a key list while the letters are put: with the keys of the letters that are left, it holds those of all
pub record Putting (mode : ℕ) (letters : List ℕ) (i : ℕ) (l : KeyList) : Type 0 where
  pub few : l.count ≤ 2 * i
  pub front : held l ++ letter_keys mode (map letter (drop i letters)) ≡ letter_keys mode (map letter letters)

few_after : (mode : ℕ) (x : Letter) (xs : Letters) → length (keys_after mode x xs) ≤ 1
few_after mode x xs = go (eqb x.shape plain || awaits_o x xs)
  where
    go : (b : Bool) → length {A = ℕ} (elim b as (λ z. List ℕ) [ true ↦ [] | false ↦ shape_key mode x ∷ [] ]) ≤ 1
    go true = lit≤ tt
    go false = lit≤ tt

pub none_put : {mode : ℕ} {letters : List ℕ} {l : KeyList} → l.count ≡ 0 → Putting mode letters 0 l
none_put {mode} {letters} {l} e = record { few = omega arith; front = ap (λ (n : ℕ). take n l.keys ++ letter_keys mode (map letter letters)) e }

pub one_put : {mode i : ℕ} {letters behind : List ℕ} {l m : KeyList} → i < length letters → behind ≡ drop (i + 1) letters → Putting mode letters i l
    → Puts l m (key_of_letter (letter (get_or letters i 0)) ∷ keys_after mode (letter (get_or letters i 0)) (map letter behind)) → Putting mode letters (i + 1) m
one_put {mode} {i} {letters} {behind} {l} {m} h b so more =
    let x = letter (get_or letters i 0) in
    let here : drop i letters ≡ get_or letters i 0 ∷ drop (i + 1) letters = drop-cons letters i 0 h ∙ rw (add-one i) in
    let rest = letter_keys mode (map letter (drop (i + 1) letters)) in
    let own = key_of_letter x ∷ keys_after mode x (map letter behind) in
    let e : own ++ rest ≡ letter_keys mode (map letter (drop i letters)) = ap (λ (v : List ℕ). key_of_letter x ∷ (keys_after mode x (map letter v) ++ rest)) b ∙ sym (ap (λ (v : List ℕ). letter_keys mode (map letter v)) here) in
    record {
      few = omega (arith, so.few, more.moved, few_after mode x (map letter behind));
      front = ap (λ (v : List ℕ). v ++ rest) more.front ∙ append_assoc (held l) own rest ∙ ap (λ (v : List ℕ). held l ++ v) e ∙ so.front;
    }

-- past the last letter every letter's keys are put
pub all_put : {mode i : ℕ} {letters : List ℕ} {l : KeyList} → length letters ≤ i → Putting mode letters i l → held l ≡ letter_keys mode (map letter letters)
all_put {mode} {letters = letters} {l} h so =
    sym (ap (λ (v : List ℕ). held l ++ letter_keys mode (map letter v)) (drop_of_length-le letters h) ∙ append-nil (held l)) ∙ so.front

-- the tone key last
module _ (mode t : ℕ) (w : Letters) where
  pub no_tone_key : t ≡ no_tone → letter_keys mode w ≡ standard_keys mode w t
  unfolding standard_keys
  no_tone_key e = sym (append-nil (letter_keys mode w)) ∙ ap (λ (n : ℕ). letter_keys mode w ++ tone_keys mode n) (sym e)

  pub tone_key_last : (t ≡ no_tone → ⊥) → letter_keys mode w ++ (tone_key mode t ∷ []) ≡ standard_keys mode w t
  unfolding standard_keys
  tone_key_last n = ap (λ (b : Bool). letter_keys mode w ++ elim b [ true ↦ [] | false ↦ tone_key mode t ∷ [] ]) (sym (ne_eqb t no_tone n))
