-- The stroke's edit in an array: the first letter's shape taken off, or put on, or nothing.
use mathlib.Core.Path.{◌≡◌, refl, sym, ap, ap₂, subst, ◌∙◌}
use mathlib.Core.Bool.{Bool, true, false, ◌&&◌, ◌||◌}
use mathlib.Core.List.{List, [], ◌∷◌, map}
use Prim.Native.Nat.{ℕ, suc, ◌<◌}
use native.Mathlib.Omega.{arith}
use lib.Dec.{eqb}
use lib.ListN.{length, set, get_or}
use borrow.Author.Tests.{ne_eqb}
use Rattle.rules.specs.Letters.{Letter, Letters, plain, stroke, is, is_nil}
use Rattle.rules.specs.TakingApart.{admitted}
use Rattle.rules.specs.TheWord.{letter, number}
use Rattle.rules.specs.KeyRoles.{shaped, Edit, off, change, only_if, first, stroke_edit}
use Rattle.rules.specs.declared.Touched.TheVariants.{OneLetter}
use Rattle.rules.specs.declared.Act.TheVariants.{Stroke}
use Rattle.targets.specs.Aims.{reshape}
use Rattle.step.specs.declared.Edit.TheVariants.{Nothing, Off, Change}
use Rattle.step.specs.LentLetters.{Canonical, Edits, dee}
use Rattle.step.proofs.Arrays.{whole_stored}

-- the first letter, and the others
record FirstOf (l : List ℕ) : Type 0 where
  others : Letters
  split : map letter l ≡ letter (get_or l 0 0) ∷ others
  alone : is_nil others ≡ eqb (length l) 1

first_of : (l : List ℕ) → 0 < length l → FirstOf l
first_of [] h = absurd (omega arith)
first_of (x ∷ []) h = record { others = []; split = refl; alone = refl }
first_of (x ∷ y ∷ l) h = record { others = letter y ∷ map letter l; split = refl; alone = sym (ne_eqb (suc (suc (length l))) 1 (λ e. omega arith)) }

module _ (l : List ℕ) (given : Canonical l) (some : 0 < length l) where
  abbrev x : Letter
  x = letter (get_or l 0 0)

  abbrev word : Letters
  word = map letter l

  abbrev struck : Bool → Bool → Edit
  struck isĐ acts = first (only_if isĐ (off (OneLetter 0) (reshape 0 plain word))) (only_if acts (change Stroke (OneLetter 0) (reshape 0 stroke word)))

  abbrev acts : Bool
  acts = is x (dee plain) && (eqb (length l) 1 || admitted word)

  stroke_is : {b c : Bool} → is x (dee stroke) ≡ b → acts ≡ c → stroke_edit word ≡ struck b c
  stroke_is d a = split_is (first_of l some) ∙ ap₂ struck d a
    where
      split_is : FirstOf l → stroke_edit word ≡ struck (is x (dee stroke)) acts
      split_is f =
          ap stroke_edit f.split ∙
          ap (λ (b : Bool). first (only_if (is x (dee stroke)) (off (OneLetter 0) (reshape 0 plain (x ∷ f.others)))) (only_if (is x (dee plain) && (b || admitted (x ∷ f.others))) (change Stroke (OneLetter 0) (reshape 0 stroke (x ∷ f.others))))) f.alone ∙
          ap (λ (w : Letters). first (only_if (is x (dee stroke)) (off (OneLetter 0) (reshape 0 plain w))) (only_if (is x (dee plain) && (eqb (length l) 1 || admitted w)) (change Stroke (OneLetter 0) (reshape 0 stroke w)))) (sym f.split)

  first_stored : (kind v : ℕ) → v ≡ number (shaped kind x) → set l 0 v ≡ map number (reshape 0 kind word)
  first_stored kind v e = ap (set l 0) e ∙ whole_stored l given 0 kind

  pub stroke_off : (v : ℕ) → v ≡ number (shaped plain x) → is x (dee stroke) ≡ true → Edits (stroke_edit word) l (Off (OneLetter 0)) (set l 0 v)
  stroke_off v e d = subst (λ (k : Edit). Edits k l (Off (OneLetter 0)) (set l 0 v)) (sym (stroke_is d refl)) (record { told = refl; left = first_stored plain v e })

  pub stroke_on : (v : ℕ) → v ≡ number (shaped stroke x) → is x (dee stroke) ≡ false → acts ≡ true → Edits (stroke_edit word) l (Change Stroke (OneLetter 0)) (set l 0 v)
  stroke_on v e d a = subst (λ (k : Edit). Edits k l (Change Stroke (OneLetter 0)) (set l 0 v)) (sym (stroke_is d a)) (record { told = refl; left = first_stored stroke v e })

  pub stroke_none : is x (dee stroke) ≡ false → acts ≡ false → Edits (stroke_edit word) l Nothing l
  stroke_none d a = subst (λ (k : Edit). Edits k l Nothing l) (sym (stroke_is d a)) (record { told = refl; left = refl })
