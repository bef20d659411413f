-- What is stored by an edit of one letter, or of two, is the edit that the rule says; what is not admitted is put back.
use Rattle.std.specs.Prelude.{Some}
use mathlib.Core.Path.{◌≡◌, refl, sym, ap, ap₂, subst, ◌∙◌}
use mathlib.Core.Bool.{Bool, true, false, ◌&&◌}
use mathlib.Core.List.{List, [], ◌∷◌, map}
use native.Mathlib.Numerals.{add-one}
use Prim.Native.Nat.{ℕ, zero, suc, ◌+◌, ◌%◌}
use native.Mathlib.Omega.{arith}
use lib.Dec.{eqb, lit<}
use borrow.Author.Tests.{eq-eqb, ne_eqb}
use lib.ListN.{set, get_or}
use lib.Seq.{get_or-set_other, set-set, set-get_or}
use Rattle.rules.specs.Letters.{Letters, plain, horn}
use Rattle.rules.specs.TakingApart.{admitted}
use Rattle.rules.specs.TheWord.{letter, number}
use Rattle.rules.specs.KeyRoles as Rules
use Rattle.rules.specs.KeyRoles.{shaped, target, change, only_if, asked}
use Rattle.rules.specs.declared.Act.TheVariants.{Shape}
use Rattle.rules.specs.declared.Touched.{Touched}
use Rattle.rules.specs.declared.Touched.TheVariants.{OneLetter, TwoLetters}
use Rattle.targets.specs.Aims.{reshape, shape_at, one_at, both_reshaped, pair_at}
use Rattle.step.specs.declared.Edit.TheVariants.{Nothing, Off, Change}
use Rattle.step.specs.LentLetters.{Canonical, LetterThere, Edits, paired}
use Rattle.step.proofs.Arrays.{reshaped_at, shape_at_law, whole_stored, whole_read, whole_given}

-- a mark taken off
off_there : (l : List ℕ) (kind : ℕ) (g : Touched) (v w : Letters) (on : List ℕ) {b : Bool} → b ≡ true → on ≡ map number v → Edits (asked kind (target b g v w)) l (Off g) on
off_there l kind g v w on e s = subst (λ (b : Bool). Edits (asked kind (target b g v w)) l (Off g) on) (sym e) (record { told = refl; left = s })

-- a mark put on: asked about, and kept or put back
module _ (l on : List ℕ) (kind : ℕ) (g : Touched) (v w : Letters) {there : Bool} (e : there ≡ false) (r : map letter on ≡ w) {q : Bool} (p : q ≡ admitted (map letter on)) where
  ruled : {b : Bool} → q ≡ b → asked kind (target there g v w) ≡ only_if b (change (Shape kind) g w)
  ruled t = ap (λ (c : Bool). asked kind (target c g v w)) e ∙ ap (λ (b : Bool). only_if b (change (Shape kind) g w)) (ap admitted (sym r) ∙ sym p ∙ t)

  stays : q ≡ true → on ≡ map number w → Edits (asked kind (target there g v w)) l (Change (Shape kind) g) on
  stays t s = subst (λ (d : Rules.Edit). Edits d l (Change (Shape kind) g) on) (sym (ruled t)) (record { told = refl; left = s })

  put_back : q ≡ false → (back : List ℕ) → back ≡ l → Edits (asked kind (target there g v w)) l Nothing back
  put_back t back s = subst (λ (d : Rules.Edit). Edits d l Nothing back) (sym (ruled t)) (record { told = refl; left = s })

-- a letter in the place of which another shape is stored
module _ (l : List ℕ) (i kind : ℕ) (aimed : LetterThere l i kind) where
  abbrev word : Letters
  word = map letter l

  shape_there : shape_at i (map letter l) ≡ (letter (get_or l i 0)).shape
  shape_there = shape_at_law l i aimed.inside

  -- the mark is there already
  pub taken_off : (v : ℕ) → v ≡ number (shaped plain (letter (get_or l i 0))) → (letter (get_or l i 0)).shape ≡ kind → Edits (asked kind (one_at kind (Some i) (map letter l))) l (Off (OneLetter i)) (set l i v)
  taken_off v e s =
      off_there l kind (OneLetter i) (reshape i plain word) (reshape i kind word) (set l i v) (eq-eqb (shape_at i word) kind (shape_there ∙ s))
      (ap (set l i) e ∙ whole_stored l aimed.given i plain)

  -- it is not
  module _ (v : ℕ) (e : v ≡ number (shaped (kind % 8) (letter (get_or l i 0)))) (s : (letter (get_or l i 0)).shape ≡ kind → ⊥) {q : Bool} (p : q ≡ admitted (map letter (set l i v))) where
    on : set l i v ≡ reshaped_at l i kind
    on = let k : kind % 8 ≡ kind = omega (arith, aimed.shape) in ap (set l i) (e ∙ ap (λ (m : ℕ). number (shaped m (letter (get_or l i 0)))) k)

    not_there : eqb (shape_at i word) kind ≡ false
    not_there = ne_eqb (shape_at i word) kind (λ h. s (sym shape_there ∙ h))

    read : map letter (set l i v) ≡ reshape i kind word
    read = ap (map letter) on ∙ whole_read l aimed.given i kind aimed.shape

    pub one_stays : q ≡ true → Edits (asked kind (one_at kind (Some i) (map letter l))) l (Change (Shape kind) (OneLetter i)) (set l i v)
    one_stays t = stays l (set l i v) kind (OneLetter i) (reshape i plain word) (reshape i kind word) not_there read p t (on ∙ whole_stored l aimed.given i kind)

    pub one_back : q ≡ false → Edits (asked kind (one_at kind (Some i) (map letter l))) l Nothing (set (set l i v) i (get_or l i 0))
    one_back t = put_back l (set l i v) kind (OneLetter i) (reshape i plain word) (reshape i kind word) not_there read p t _ (set-set l i v (get_or l i 0) ∙ set-get_or l i 0)

-- a letter and the next
module _ (l : List ℕ) (i kind : ℕ) (aimed : LetterThere l (i + 1) kind) where
  abbrev letters : Letters
  letters = map letter l

  abbrev first : List ℕ
  first = reshaped_at l i kind

  abbrev both : List ℕ
  both = reshaped_at first (i + 1) kind

  first_given : Canonical first
  first_given = whole_given l aimed.given i kind aimed.shape

  both_letters : reshape (i + 1) kind (map letter first) ≡ both_reshaped i kind letters
  both_letters = ap₂ (λ (j : ℕ) (w : Letters). reshape j kind w) (add-one i) (whole_read l aimed.given i kind aimed.shape)

  both_stored : both ≡ map number (both_reshaped i kind letters)
  both_stored = whole_stored first first_given (i + 1) kind ∙ ap (map number) both_letters

  both_read : map letter both ≡ both_reshaped i kind letters
  both_read = whole_read first first_given (i + 1) kind aimed.shape ∙ both_letters

  -- the two stores, each of a letter read before them
  both_on : (v x : ℕ) → v ≡ number (shaped kind (letter (get_or l i 0))) → x ≡ number (shaped kind (letter (get_or l (i + 1) 0))) → paired l i v x ≡ both
  both_on v x e f =
      ap₂ (λ (m : List ℕ) (k : ℕ). set m (i + 1) k) (ap (set l i) e)
      (f ∙ ap (λ (k : ℕ). number (shaped kind (letter k))) (sym (get_or-set_other l i (i + 1) (number (shaped kind (letter (get_or l i 0)))) 0 (λ h. omega arith))))

-- two letters put back
set_before : (l : List ℕ) (i a b : ℕ) → set (set l (suc i) b) i a ≡ set (set l i a) (suc i) b
set_before [] i a b = refl
set_before (y ∷ l) zero a b = refl
set_before (y ∷ l) (suc i) a b = ap (◌∷◌ y) (set_before l i a b)

paired_back : (l : List ℕ) (i v x : ℕ) → paired (paired l i v x) i (get_or l i 0) (get_or l (i + 1) 0) ≡ l
paired_back l i v x =
    let u = get_or l i 0 in
    let o = get_or l (i + 1) 0 in
    ap (λ (m : List ℕ). set m (i + 1) o)
    (ap (λ (j : ℕ). set (set (set l i v) j x) i u) (add-one i) ∙ set_before (set l i v) i u x ∙ ap (λ (j : ℕ). set (set (set l i v) i u) j x) (sym (add-one i))) ∙
    set-set (set (set l i v) i u) (i + 1) x o ∙ ap (λ (m : List ℕ). set m (i + 1) o) (set-set l i v u ∙ set-get_or l i 0) ∙ set-get_or l (i + 1) 0

-- the horn's pair
module _ (l : List ℕ) (i : ℕ) (aimed : LetterThere l (i + 1) horn) where
  at_plain : LetterThere l (i + 1) plain
  at_plain = record { given = aimed.given; inside = aimed.inside; shape = lit< tt }

  at_first : LetterThere l i horn
  at_first = record { given = aimed.given; inside = omega (arith, aimed.inside); shape = aimed.shape }

  abbrev shapes : Bool
  shapes = eqb (letter (get_or l i 0)).shape horn && eqb (letter (get_or l (i + 1) 0)).shape horn

  flag : eqb (shape_at i (map letter l)) horn && eqb (shape_at (suc i) (map letter l)) horn ≡ shapes
  flag =
      ap₂ (λ (a b : ℕ). eqb a horn && eqb b horn) (shape_there l i horn at_first)
      (ap (λ (j : ℕ). shape_at j (map letter l)) (sym (add-one i)) ∙ shape_there l (i + 1) horn aimed)

  abbrev word_off : Letters
  word_off = both_reshaped i plain (map letter l)

  abbrev word_on : Letters
  word_on = both_reshaped i horn (map letter l)

  pub pair_off : (v x : ℕ) (on : List ℕ) → v ≡ number (shaped plain (letter (get_or l i 0))) → x ≡ number (shaped plain (letter (get_or l (i + 1) 0))) → on ≡ paired l i v x → shapes ≡ true →
      Edits (asked horn (pair_at (Some i) (map letter l))) l (Off (TwoLetters i)) on
  pair_off v x on e f o s = off_there l horn (TwoLetters i) word_off word_on on (flag ∙ s) (o ∙ both_on l i plain at_plain v x e f ∙ both_stored l i plain at_plain)

  module _ (v x : ℕ) (on : List ℕ) (e : v ≡ number (shaped horn (letter (get_or l i 0)))) (f : x ≡ number (shaped horn (letter (get_or l (i + 1) 0)))) (o : on ≡ paired l i v x) (s : shapes ≡ false) {q : Bool} (p : q ≡ admitted (map letter on)) where
    two : on ≡ reshaped_at (reshaped_at l i horn) (i + 1) horn
    two = o ∙ both_on l i horn aimed v x e f

    two_read : map letter on ≡ word_on
    two_read = ap (map letter) two ∙ both_read l i horn aimed

    pub pair_stays : q ≡ true → Edits (asked horn (pair_at (Some i) (map letter l))) l (Change (Shape horn) (TwoLetters i)) on
    pair_stays t = stays l on horn (TwoLetters i) word_off word_on (flag ∙ s) two_read p t (two ∙ both_stored l i horn aimed)

    pub pair_back : q ≡ false → (back : List ℕ) → back ≡ paired on i (get_or l i 0) (get_or l (i + 1) 0) → Edits (asked horn (pair_at (Some i) (map letter l))) l Nothing back
    pair_back t back h = put_back l on horn (TwoLetters i) word_off word_on (flag ∙ s) two_read p t back (h ∙ ap (λ (m : List ℕ). paired m i (get_or l i 0) (get_or l (i + 1) 0)) o ∙ paired_back l i v x)
