-- In huo, khuo and thuo the o is the last letter; in huơ, khuơ and thuơ the u that gets the horn is the letter before it.
use Rattle.std.specs.Prelude.{Option, Some, None}
use mathlib.Core.Path.{◌≡◌, refl, sym, ap, ap₂, ◌∙◌}
use mathlib.Core.Bool.{Bool, true, false}
use mathlib.Core.List.{List, [], ◌∷◌, ◌++◌}
use Prim.Native.Nat.{ℕ, zero, suc, ◌+◌, ◌≤◌}
use native.Mathlib.Omega.{arith}
use lib.Dec.{T}
use lib.ListN.{length, length-append}
use Rattle.rules.specs.Letters.{Letter, Letters, horn, words}
use Rattle.rules.specs.KeyRoles.{shaped, awaits_second_horn, horn_on_u, place_of_u, is_o, horns_o_alone}
use Rattle.rules.proofs.Tests.{is_true}
use Rattle.rules.proofs.Words.{bases, of_words}
use Rattle.rules.proofs.Appends.{Awaits, awaits}
use Rattle.targets.specs.Places.{or_this, last_place}
use Rattle.targets.specs.Aims.{reshape}

abbrev o_last : List ℕ → Bool
o_last [] = false
o_last (b ∷ []) = is_o b
o_last (b ∷ c ∷ bs) = o_last (c ∷ bs)

one_letter : (w : Letters) → T (o_last (bases w)) → 1 ≤ length w
one_letter (x ∷ w) t = omega arith
one_letter [] t = elim t [ ]

o_last_law : (w : Letters) (n : ℕ) → length w ≡ n + 1 → T (o_last (bases w)) → last_place is_o w ≡ Some n
o_last_law (x ∷ []) zero e t = ap (or_this None) (is_true (is_o x.base) t)
o_last_law (x ∷ []) (suc n) e t = absurd (omega arith)
o_last_law (x ∷ z ∷ w) zero e t = absurd (omega arith)
o_last_law (x ∷ z ∷ w) (suc n) e t = ap (λ (p : Option ℕ). or_this p (is_o x.base)) (o_last_law (z ∷ w) n (omega arith) t)
o_last_law [] n e t = elim t [ ]

module _ (w : Letters) (h : horns_o_alone w ≡ true) where
  alone : T (o_last (bases w))
  alone = of_words o_last w (words "huo khuo thuo huô khuô thuô huơ khuơ thuơ") tt (rw h tt)

  pub o_there : 1 ≤ length w
  o_there = one_letter w alone

  pub o_at_end : (n : ℕ) → length w ≡ n + 1 → last_place is_o w ≡ Some n
  o_at_end n e = o_last_law w n e alone

reshape_at : (v : Letters) (x : Letter) (xs : Letters) → reshape (length v) horn (v ++ (x ∷ xs)) ≡ v ++ (shaped horn x ∷ xs)
reshape_at [] x xs = refl
reshape_at (z ∷ v) x xs = ap (◌∷◌ z) (reshape_at v x xs)

module _ (w : Letters) (h : awaits_second_horn w ≡ true) where
  waits : Awaits w
  waits = awaits w (rw h tt)

  long : length w ≡ length waits.initial + 2
  long = ap length waits.word ∙ length-append waits.initial _

  pub u_and_o : 2 ≤ length w
  u_and_o = omega (arith, long)

  pub u_before_o : (n : ℕ) → length w ≡ n + 2 → place_of_u w ≡ n
  u_before_o n e = waits.u_place ∙ omega (arith, long, e)

  pub horn_on_u_law : (n : ℕ) → length w ≡ n + 2 → horn_on_u w ≡ reshape n horn w
  horn_on_u_law n e =
      let k : length waits.initial ≡ n = omega (arith, long, e) in
      waits.horned ∙ sym (ap₂ (λ (m : ℕ) (v : Letters). reshape m horn v) (sym k) waits.word ∙ reshape_at waits.initial _ _)
