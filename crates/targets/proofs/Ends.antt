-- Letters read off numbers, by the last of them and by those before it: which words they are one of.
use mathlib.Core.Path.{◌≡◌, refl, sym, ap, ◌∙◌}
use mathlib.Core.Bool.{Bool, true, false, ◌&&◌, ◌||◌}
use mathlib.Core.List.{List, [], ◌∷◌, ◌++◌, map, map-append}
use Prim.Native.Nat.{ℕ, suc, ◌-◌, ◌<◌}
use Prim.Native.Char.{code}
use native.Mathlib.Omega.{arith}
use lib.ListN.{length, take, drop, get_or, take-append-drop}
use lib.Seq.{drop-cons, drop-length}
use Rattle.rules.specs.Letters.{Letter, Letters, plain, circumflex, horn, words, small, is, same, one_of}
use Rattle.rules.specs.TheWord.{letter}
use Rattle.rules.specs.KeyRoles.{horns_o_alone}
use Rattle.rules.proofs.Bools.{pick, if_so, and_false}
use Rattle.rules.proofs.Tests.{some_both}
use Rattle.rules.proofs.Words.{ended_by, one_ended}

-- letters read off numbers, but the last, and the last
module _ (s : List ℕ) (some : 0 < length s) where
  abbrev end : ℕ
  end = get_or s (length s - 1) 0

  abbrev before : List ℕ
  before = take (length s - 1) s

  split : map letter s ≡ map letter before ++ (letter end ∷ [])
  split =
      let n : suc (length s - 1) ≡ length s = omega arith in
      ap (map letter) (sym (take-append-drop (length s - 1) s) ∙ ap (◌++◌ before) (drop-cons s (length s - 1) 0 (omega arith) ∙ ap (◌∷◌ end) (ap (λ (k : ℕ). drop k s) n ∙ drop-length s))) ∙
      map-append letter before (end ∷ [])

  abbrev front : Letters
  front = map letter before

  -- words that end in one letter
  module _ (y : Letter) (zs : List Letters) where
    by_end : one_of (map letter s) (ended_by y zs) ≡ (is (letter end) y && one_of front zs)
    by_end = ap (λ (w : Letters). one_of w (ended_by y zs)) split ∙ one_ended (map letter before) (letter end) y zs

    pub other_end : is (letter end) y ≡ false → false ≡ one_of (map letter s) (ended_by y zs)
    other_end e = sym (by_end ∙ ap (λ (b : Bool). b && one_of front zs) e)

    pub same_end : {r : Bool} → is (letter end) y ≡ true → r ≡ one_of front zs → r ≡ one_of (map letter s) (ended_by y zs)
    same_end e f = f ∙ sym (by_end ∙ ap (λ (b : Bool). b && one_of front zs) e)

  -- huo, khuo and thuo, their o in one of its three shapes
  abbrev ends_in_o : Bool
  ends_in_o = is (letter end) (small (code "o") plain) || (is (letter end) (small (code "o") circumflex) || is (letter end) (small (code "o") horn))

  abbrev huos : ℕ → List Letters
  huos sh = ended_by (small (code "o") sh) (words "hu khu thu")

  by_o : (sh : ℕ) → one_of (map letter s) (huos sh) ≡ (is (letter end) (small (code "o") sh) && one_of front (words "hu khu thu"))
  by_o sh = by_end (small (code "o") sh) (words "hu khu thu")

  o_alone : horns_o_alone (map letter s) ≡ (ends_in_o && one_of front (words "hu khu thu"))
  o_alone =
      some_both (same (map letter s)) (huos plain) (huos circumflex ++ huos horn) ∙
      ap (λ (b : Bool). one_of (map letter s) (huos plain) || b) (some_both (same (map letter s)) (huos circumflex) (huos horn)) ∙
      (λ j. by_o plain j || (by_o circumflex j || by_o horn j)) ∙
      go (is (letter end) (small (code "o") plain)) (is (letter end) (small (code "o") circumflex)) (is (letter end) (small (code "o") horn)) (one_of front (words "hu khu thu"))
    where
      go : (a b c d : Bool) → ((a && d) || ((b && d) || (c && d))) ≡ ((a || (b || c)) && d)
      go true b c true = refl
      go true true c false = sym (and_false c)
      go true false c false = sym (and_false c)
      go false true c true = refl
      go false true c false = sym (and_false c)
      go false false c d = refl

  pub no_o : ends_in_o ≡ false → false ≡ horns_o_alone (map letter s)
  no_o e = sym (o_alone ∙ ap (λ (b : Bool). b && one_of front (words "hu khu thu")) e)

  pub an_o : {r : Bool} → ends_in_o ≡ true → r ≡ one_of front (words "hu khu thu") → r ≡ horns_o_alone (map letter s)
  an_o e f = f ∙ sym (o_alone ∙ ap (λ (b : Bool). b && one_of front (words "hu khu thu")) e)

-- more letters than one
pub more_than_one : (s : List ℕ) → 1 < length s → false ≡ one_of (map letter s) ([] ∷ words "k t")
more_than_one [] h = absurd (omega arith)
more_than_one (n ∷ []) h = absurd (omega arith)
more_than_one (n ∷ m ∷ s) h = go (is (letter n) (small (code "k") plain)) (is (letter n) (small (code "t") plain))
  where
    go : (a b : Bool) → false ≡ pick true (if_so a false) (pick true (if_so b false) false)
    go true true = refl
    go true false = refl
    go false true = refl
    go false false = refl
