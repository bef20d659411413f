-- What is known of a word when checks 1 to 5 are passed one after the other: its parts as packed numbers, and that the check does not hold. Behind the fifth, the sixth and the seventh decide.
use mathlib.Core.Path.{◌≡◌, sym, ap, ◌∙◌}
use mathlib.Core.Bool.{Bool, true, false, not}
use mathlib.Core.List.{List, [], ◌∷◌, map}
use Prim.Native.Nat.{ℕ, ◌-◌}
use lib.ListN.{length, take, drop}
use borrow.Author.Tests.{eq-eqb, ne_eqb}
use Rattle.rules.specs.Letters.{Letters, is_nil, one_of, first_base}
use Rattle.rules.specs.TheWord.{letter}
use Rattle.rules.specs.TakingApart.{initial, nucleus, final, leftovers, initials, finals, fit, listed, fits, some_agrees, check, first_that_holds}
use Rattle.parts.specs.declared.Parts.{Parts}
use Rattle.parts.specs.Ends.{parts_of}
use Rattle.parts.proofs.Splits.{Cut, cut}
use Rattle.syllable.specs.Numbers.{packed, Packs}
use Rattle.syllable.specs.Checks.{sixth, first_fault}
use Rattle.syllable.proofs.PackedWords.{packs}
use Rattle.syllable.proofs.Asks.{listed_free, answered}

-- check 1: there is a nucleus
pub record Begun (s : List ℕ) (cuts : Parts) (p : ℕ) : Type 0 where
  pub parts : Cut s cuts.initial cuts.nucleus cuts.end
  pub ini : Packs p (initial (map letter s))
  pub one : false ≡ is_nil (nucleus (map letter s))

pub begun : {s : List ℕ} {cuts : Parts} {p : ℕ} → cuts ≡ parts_of (map letter s) → (cuts.initial ≡ cuts.nucleus → ⊥) → p ≡ packed (map letter (take (cuts.initial - 0) (drop 0 s))) → Begun s cuts p
begun {s} {cuts} told some e = let parts = cut s cuts told in record { parts = parts; ini = packs _ e parts.ini; one = sym (ne_eqb _ _ some) ∙ parts.none }

-- checks 2 and 3: the initial is known, and nothing is left over
pub record Whole (s : List ℕ) (cuts : Parts) (p n : ℕ) : Type 0 where
  pub begun : Begun s cuts p
  pub nuc : Packs n (nucleus (map letter s))
  pub two : false ≡ not (one_of (initial (map letter s)) initials)
  pub three : false ≡ not (is_nil (leftovers (map letter s)))

pub whole : {s : List ℕ} {cuts : Parts} {p n : ℕ} {known : Bool} → Begun s cuts p → ((w : Letters) → Packs p w → known ≡ one_of w initials) → known ≡ true → cuts.end ≡ length s →
    n ≡ packed (map letter (take (cuts.nucleus - cuts.initial) (drop cuts.initial s))) → Whole s cuts p n
whole b is passed all e =
    record {
      begun = b;
      nuc = packs _ e b.parts.nuc;
      two = ap not (sym passed ∙ is _ b.ini);
      three = ap not (sym (eq-eqb _ _ all) ∙ b.parts.left);
    }

-- check 4: the initial fits the first letter of the nucleus
pub record Fitting (s : List ℕ) (cuts : Parts) (p n f : ℕ) : Type 0 where
  pub whole : Whole s cuts p n
  pub fin : Packs f (final (map letter s))
  pub four : false ≡ not (fit (initial (map letter s)) (first_base (nucleus (map letter s))))

-- what the code asks is what the check asks
pub fits_first : {s : List ℕ} {cuts : Parts} {p n v : ℕ} {b : Bool} → Whole s cuts p n → ((w : Letters) → Packs n w → v ≡ first_base w) → ((w : Letters) → Packs p w → b ≡ fit w v) →
    b ≡ fit (initial (map letter s)) (first_base (nucleus (map letter s)))
fits_first {s} w first is = is _ w.begun.ini ∙ ap (fit (initial (map letter s))) (first _ w.nuc)

pub fitting : {s : List ℕ} {cuts : Parts} {p n f : ℕ} {b : Bool} → Whole s cuts p n → b ≡ fit (initial (map letter s)) (first_base (nucleus (map letter s))) → b ≡ true →
    f ≡ packed (map letter (take (cuts.end - cuts.nucleus) (drop cuts.nucleus s))) → Fitting s cuts p n f
fitting w is passed e = record { whole = w; fin = packs _ e w.begun.parts.fin; four = ap not (sym passed ∙ is) }

-- check 5: the final is known
pub decided : {s : List ℕ} {cuts : Parts} {p n f : ℕ} {known six seven : Bool} (tone : ℕ) (free : Bool) → Fitting s cuts p n f → ((w : Letters) → Packs f w → known ≡ one_of w finals) → known ≡ true →
    six ≡ not (sixth free (map letter s)) → seven ≡ not (fits (final (map letter s)) tone) →
    first_that_holds (check 6 six ∷ check 7 seven ∷ []) ≡ first_fault (map letter s) tone free
decided {s} tone free a is passed g h = answered (map letter s) tone free a.whole.begun.one a.whole.two a.whole.three a.four (ap not (sym passed ∙ is _ a.fin)) g h

-- check 6, by what is asked: whether the nucleus is listed, or where its letters are free whether some one agrees
module _ {s : List ℕ} {cuts : Parts} {p n f : ℕ} {found : Bool} (a : Fitting s cuts p n f) where
  pub as_listed : {free yes_or_no : Bool} → free ≡ false → ((w v z : Letters) → Packs p w → Packs n v → Packs f z → found ≡ listed w v z) → found ≡ yes_or_no → sixth free (map letter s) ≡ yes_or_no
  as_listed shut is e = ap (λ (b : Bool). sixth b (map letter s)) shut ∙ sym (is _ _ _ a.whole.begun.ini a.whole.nuc a.fin) ∙ e

  pub as_agreeing : {free yes_or_no : Bool} → free ≡ true → ((w v z : Letters) → Packs p w → Packs n v → Packs f z → found ≡ some_agrees w v z) → found ≡ yes_or_no → sixth free (map letter s) ≡ yes_or_no
  as_agreeing open_to is e = ap (λ (b : Bool). sixth b (map letter s)) open_to ∙ sym (is _ _ _ a.whole.begun.ini a.whole.nuc a.fin) ∙ e

  pub is_listed : (free : Bool) → ((w v z : Letters) → Packs p w → Packs n v → Packs f z → found ≡ listed w v z) → found ≡ true → sixth free (map letter s) ≡ true
  is_listed free is e = listed_free free (map letter s) (sym (is _ _ _ a.whole.begun.ini a.whole.nuc a.fin) ∙ e)
