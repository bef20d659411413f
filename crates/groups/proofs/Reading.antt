-- One step of reading: what the number at a place is, by the group that stands there and the number behind it.
use Rattle.std.specs.Prelude.{Option, Some, None}
use mathlib.Core.Path.{◌≡◌, refl, sym, ap, ap₂, ◌∙◌}
use mathlib.Core.Bool.{Bool, true, false}
use mathlib.Core.List.{List, [], ◌∷◌}
use Prim.Native.Nat.{ℕ, zero, suc, ◌+◌, ◌-◌, ◌%◌, ◌≤◌, ◌<◌}
use native.Mathlib.Numerals.{add-one}
use native.Mathlib.Omega.{arith}
use borrow.Author.Tests.{lt-ltb, le-ltb}
use lib.Dec.{ltb}
use lib.ListN.{length, drop, get_or, drop_of_length-le}
use lib.Seq.{drop-cons}
use Rattle.groups.specs.Numbers.{in_front, number_in}
use Rattle.groups.specs.declared.Number.{Number}
use Rattle.groups.proofs.Stands.{by_test, stands, within}

of_nothing : (left : ℕ) → number_in left [] ≡ None
of_nothing zero = refl
of_nothing (suc k) = refl

pub few_groups : (k : ℕ) (bs : List ℕ) (n : Number) → Some n ≡ (number_in k bs) → n.groups ≤ k
few_groups k bs n e = (within (stands k bs n (sym e))).2

module _ (bs : List ℕ) (at left : ℕ) where
  pub none_left : left ≡ 0 → None ≡ (number_in left (drop at bs))
  none_left e = rw e

  pub cut_short : length bs ≤ at → None ≡ (number_in left (drop at bs))
  cut_short h = sym ((ap (number_in left) (drop_of_length-le bs h) ∙ of_nothing left))

  module _ (groups_left : left ≡ 0 → ⊥) (inside : at < length bs) where
    turn : (c : Bool) → ltb (get_or bs at 0) 128 ≡ c → number_in left (drop at bs) ≡ by_test (get_or bs at 0) (number_in (left - 1) (drop (at + 1) bs)) c
    turn c t =
        let one_left : left ≡ suc (left - 1) = omega arith in
        ap₂ number_in one_left (drop-cons bs at 0 inside ∙ ap (λ (j : ℕ). get_or bs at 0 ∷ drop j bs) (sym (add-one at))) ∙ ap (by_test (get_or bs at 0) (number_in (left - 1) (drop (at + 1) bs))) t

    pub the_last : get_or bs at 0 < 128 → Some (record { value = get_or bs at 0; groups = 1 }) ≡ (number_in left (drop at bs))
    the_last h = sym ((turn true (lt-ltb (get_or bs at 0) 128 h)))

    module _ (more_follow : 128 ≤ get_or bs at 0) where
      in_front_of : (o : Option Number) → number_in (left - 1) (drop (at + 1) bs) ≡ o → (in_front (get_or bs at 0 % 128) o) ≡ (number_in left (drop at bs))
      in_front_of o e = sym ((turn false (le-ltb (get_or bs at 0) 128 more_follow) ∙ ap (in_front (get_or bs at 0 % 128)) e))

      pub of_none : None ≡ (number_in (left - 1) (drop (at + 1) bs)) → None ≡ (number_in left (drop at bs))
      of_none e = in_front_of None (sym e)

      pub of_some : (n : Number) → Some n ≡ (number_in (left - 1) (drop (at + 1) bs)) → (in_front (get_or bs at 0 % 128) (Some n)) ≡ (number_in left (drop at bs))
      of_some n e = in_front_of (Some n) (sym e)
