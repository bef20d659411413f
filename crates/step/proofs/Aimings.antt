-- The places that the targets are found at, among letters: they are those of the rules, and lie within the word.
use Rattle.std.specs.Prelude.{Option, Some, None}
use mathlib.Core.Path.{◌≡◌, refl, sym, ap, subst, ◌∙◌}
use mathlib.Core.Bool.{Bool, true, false}
use mathlib.Core.List.{List, map}
use Prim.Native.Nat.{ℕ, ◌+◌, ◌-◌, ◌≤◌, ◌<◌}
use native.Mathlib.Omega.{arith}
use lib.Dec.{lit<}
use lib.ListN.{length, length-map}
use Rattle.rules.specs.Letters.{horn}
use Rattle.rules.specs.TheWord.{letter}
use Rattle.rules.specs.KeyRoles.{Found, asked, last, horns_o_alone, horned}
use Rattle.targets.specs.Places.{last_place, pair_place, single_place}
use Rattle.targets.specs.Aims.{one_at, pair_at}
use Rattle.targets.proofs.Finds.{last_is, horned_alone, horned_pair, horned_single}
use Rattle.targets.proofs.Waits.{o_there}
use Rattle.targets.proofs.Within.{last_within, single_within, pair_within}
use Rattle.step.specs.declared.Edit.{Edit}
use Rattle.step.specs.declared.Edit.TheVariants.{Nothing}
use Rattle.step.specs.LentLetters.{Canonical, LetterThere, PlaceThere, Edits}

-- an edit by what is found
pub as_found : (kind : ℕ) {l : List ℕ} {r : Edit} {m : List ℕ} {f g : Found} → f ≡ g → Edits (asked kind g) l r m → Edits (asked kind f) l r m
as_found kind {l} {r} {m} e p = subst (λ (x : Found). Edits (asked kind x) l r m) (sym e) p

-- a place that was found, or none
module _ (l : List ℕ) (kind : ℕ) {p : Option ℕ} where
  pub found_none : p ≡ None → Edits (asked kind (one_at kind p (map letter l))) l Nothing l
  found_none e = as_found kind (ap (λ (x : Option ℕ). one_at kind x (map letter l)) e) (record { told = refl; left = refl })

  pub found_there : {i : ℕ} → PlaceThere l p kind → p ≡ Some i → LetterThere l i kind
  found_there {i} t e = record { given = t.given; inside = t.inside i e; shape = t.shape }

  pub found_at : {i : ℕ} {r : Edit} {m : List ℕ} → p ≡ Some i → Edits (asked kind (one_at kind (Some i) (map letter l))) l r m → Edits (asked kind (one_at kind p (map letter l))) l r m
  found_at e = as_found kind (ap (λ (x : Option ℕ). one_at kind x (map letter l)) e)

module _ (l : List ℕ) where
  count_of : length (map letter l) ≡ length l
  count_of = length-map l letter

  module _ (want : ℕ → Bool) (kind : ℕ) {p : Option ℕ} (e : p ≡ last_place want (map letter l)) where
    pub last_at : last want kind (map letter l) ≡ one_at kind p (map letter l)
    last_at = last_is want kind (map letter l) ∙ ap (λ (x : Option ℕ). one_at kind x (map letter l)) (sym e)

    pub last_there : Canonical l → kind < 8 → PlaceThere l p kind
    last_there g k = record { given = g; inside = λ i f. omega (arith, last_within want (map letter l) (sym e ∙ f), count_of); shape = k }

  pub alone_inside : horns_o_alone (map letter l) ≡ true → 1 ≤ length l
  alone_inside e = omega (arith, o_there (map letter l) e, count_of)

  pub horn_alone : horns_o_alone (map letter l) ≡ true → horned (map letter l) ≡ one_at horn (Some (length l - 1)) (map letter l)
  horn_alone e = horned_alone (map letter l) (length l - 1) e (omega (arith, count_of, alone_inside e))

  pub alone_aimed : Canonical l → horns_o_alone (map letter l) ≡ true → LetterThere l (length l - 1) horn
  alone_aimed g e = record { given = g; inside = omega (arith, alone_inside e); shape = lit< tt }

  pub horn_pair : {i : ℕ} → horns_o_alone (map letter l) ≡ false → pair_place false (map letter l) ≡ Some i → horned (map letter l) ≡ pair_at (Some i) (map letter l)
  horn_pair a e = horned_pair (map letter l) a e

  pub pair_aimed : {i : ℕ} → Canonical l → pair_place false (map letter l) ≡ Some i → LetterThere l (i + 1) horn
  pair_aimed g e = record { given = g; inside = omega (arith, pair_within false (map letter l) e, count_of); shape = lit< tt }

  pub horn_single : {p : Option ℕ} → horns_o_alone (map letter l) ≡ false → pair_place false (map letter l) ≡ None → p ≡ single_place false (map letter l) → horned (map letter l) ≡ one_at horn p (map letter l)
  horn_single a e f = horned_single (map letter l) a e (sym f)

  pub single_there : {p : Option ℕ} → Canonical l → p ≡ single_place false (map letter l) → PlaceThere l p horn
  single_there g e = record { given = g; inside = λ i f. omega (arith, single_within false (map letter l) (sym e ∙ f), count_of); shape = lit< tt }
