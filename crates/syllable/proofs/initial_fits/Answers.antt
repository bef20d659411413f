-- `syllable::initial_fits` meets its contract: each arm is the rule of its initials, and no other initial has a rule.
use mathlib.Core.Path.{◌≡◌, refl, sym, ap, ◌∙◌}
use mathlib.Core.Bool.{Bool, true, false, not, ◌&&◌}
use mathlib.Core.List.{List, [], ◌∷◌}
use mathlib.Core.Logic.{⊎_elim}
use Prim.Native.Nat.{ℕ}
use lib.Dec.{T}
use Rattle.rules.specs.Letters.{Letters, elem, among, word, words}
use Rattle.rules.specs.TakingApart.{implies, fit}
use Rattle.syllable.specs.Numbers.{nums, Packs}
use Rattle.rules.proofs.Bools.{and_true}
use Rattle.rules.proofs.Arms.{Passed, none_in}
use Rattle.syllable.proofs.PackedWords.{same_is, one_is}
use Rattle.syllable.proofs.Keys.{Key, keys, every, in_arm, no_elem}
use Rattle.syllable.proofs.initial_fits.Goals as goal

abbrev rule : (c_ng g k gh gi qu : Bool) → ℕ → Bool
rule c_ng g k gh gi qu v =
    implies c_ng (not (among v "eiy")) &&
    (implies g (not (among v "ey")) &&
    (implies k (among v "eiy") && (implies gh (among v "ei") && (implies gi (not (among v "iy")) && implies qu (not (among v "u"))))))

-- the rule, of a number
abbrev ruled : ℕ → ℕ → Bool
ruled v p =
    rule (elem p (nums (words "c ng"))) (elem p (nums (words "g"))) (elem p (nums (words "k"))) (elem p (nums (words "gh ngh"))) (elem p (nums (words "gi"))) (elem p (nums (words "qu"))) v

is_fit : {p : ℕ} {w : Letters} → Packs p w → (v : ℕ) → ruled v p ≡ fit w v
unfolding fit
is_fit c v j =
    rule (one_is c (words "c ng") tt j) (same_is c (word "g") tt j) (same_is c (word "k") tt j) (one_is c (words "gh ngh") tt j) (same_is c (word "gi") tt j) (same_is c (word "qu") tt j) v

module _ (v : ℕ) {p : ℕ} {w : Letters} (h : Packs p w) where
  -- an initial that has a rule
  ruled_by : (k : ℕ) (r : Bool) → r ≡ ruled v k → p ≡ k → r ≡ fit w v
  ruled_by k r s e = s ∙ ap (ruled v) (sym e) ∙ is_fit h v

  -- one that has none
  abbrev arms : List (List ℕ)
  arms = keys (words "c ng") ∷ keys (words "g") ∷ keys (words "k") ∷ keys (words "gh ngh") ∷ keys (words "gi") ∷ keys (words "qu") ∷ []

  free : Passed (Key p) (Unit {0}) arms → true ≡ fit w v
  free m = (λ j. rule (none (words "c ng") tt j) (none (words "g") tt j) (none (words "k") tt j) (none (words "gh ngh") tt j) (none (words "gi") tt j) (none (words "qu") tt j) v) ∙ is_fit h v
    where
      none : (zs : List Letters) → T (every (in_arm arms) (nums zs)) → false ≡ elem p (nums zs)
      none zs t = no_elem p (nums zs) arms t (none_in (Key p) (Unit {0}) arms m)

pub returns-in-199 : goal.returns-in-199
returns-in-199 c w h = ⊎_elim (ruled_by _ h _ _ (and_true _)) (ruled_by _ h _ _ (and_true _)) c.in-199.is

pub returns-in-207 : goal.returns-in-207
returns-in-207 c w h = ruled_by _ h _ _ (and_true _) c.in-207.is

pub returns-in-215 : goal.returns-in-215
returns-in-215 c w h = ruled_by _ h _ _ (and_true _) c.in-215.is

pub returns-in-856271 : goal.returns-in-856271
returns-in-856271 c w h = ⊎_elim (ruled_by _ h _ _ (and_true _)) (ruled_by _ h _ _ (and_true _)) c.in-856271.is

pub returns-in-864463 : goal.returns-in-864463
returns-in-864463 c w h = ruled_by _ h _ _ (and_true _) c.in-864463.is

pub returns-in-962787 : goal.returns-in-962787
returns-in-962787 c w h = ruled_by _ h _ _ refl c.in-962787.is

pub returns-in_default : goal.returns-in_default
returns-in_default c w h = free _ h c.in_default.in_default-own.rest
