-- The case of a letter makes no difference to the rules by which forms are made; letters that are the same but for their case.
use mathlib.Core.Path.{◌≡◌, refl, ap, ap₂}
use mathlib.Core.Bool.{Bool, true, false}
use mathlib.Core.List.{List, [], ◌∷◌, ◌++◌}
use lib.Dec.{T}
use Rattle.rules.specs.Letters.{Letter, Letters, is, same, one_of, is_nil, first_base}
use Rattle.rules.specs.TakingApart.{plain_u, i_and_another, joins, fit, Row, takes, stands}
use Rattle.rules.proofs.Tests.{is_letter}
use Rattle.forms.specs.Forms.{capitals, other_cases, cased_as}
use Rattle.rules.proofs.Bools.{and_if, and_so}

pub same_cased : (w z : Letters) → T (same w z) → w ≡ cased_as (capitals w) z
same_cased [] [] t = refl
same_cased (x ∷ xs) (z ∷ zs) t = let u = and_if (is x z) (same xs zs) t in ap₂ (λ (y : Letter) (ys : Letters). y ∷ ys) (is_letter x z u.0) (same_cased xs zs u.1)
same_cased [] (z ∷ zs) t = elim t [ ]
same_cased (x ∷ xs) [] t = elim t [ ]

pub same_append : (v w y z : Letters) → T (same v y) → T (same w z) → T (same (v ++ w) (y ++ z))
same_append [] w [] z t u = u
same_append (x ∷ v) w (y ∷ ys) z t u = let (h, k) = and_if (is x y) (same v ys) t in and_so (is x y) (same (v ++ w) (ys ++ z)) h (same_append v w ys z k u)
same_append [] w (y ∷ ys) z t u = elim t [ ]
same_append (x ∷ v) w [] z t u = elim t [ ]

pub same_as_cased : (cs : List Bool) (a z : Letters) → same a (cased_as cs z) ≡ same a z
same_as_cased cs [] [] = refl
same_as_cased cs [] (z ∷ zs) = refl
same_as_cased cs (x ∷ a) [] = refl
same_as_cased cs (x ∷ a) (z ∷ zs) = ap (λ (b : Bool). elim (is x z) [ true ↦ b | false ↦ false ]) (same_as_cased (other_cases cs) a zs)

-- in any case
cased_same : (cs : List Bool) (a z : Letters) → same (cased_as cs a) z ≡ same a z
cased_same cs [] [] = refl
cased_same cs [] (z ∷ zs) = refl
cased_same cs (x ∷ a) [] = refl
cased_same cs (x ∷ a) (z ∷ zs) = ap (λ (b : Bool). elim (is x z) [ true ↦ b | false ↦ false ]) (cased_same (other_cases cs) a zs)

cased_one : (cs : List Bool) (a : Letters) (zs : List Letters) → one_of (cased_as cs a) zs ≡ one_of a zs
cased_one cs a [] = refl
cased_one cs a (z ∷ zs) = ap₂ (λ (p q : Bool). elim p [ true ↦ true | false ↦ q ]) (cased_same cs a z) (cased_one cs a zs)

cased_nil : (cs : List Bool) (a : Letters) → is_nil (cased_as cs a) ≡ is_nil a
cased_nil cs [] = refl
cased_nil cs (x ∷ a) = refl

cased_first : (cs : List Bool) (a : Letters) → first_base (cased_as cs a) ≡ first_base a
cased_first cs [] = refl
cased_first cs (x ∷ a) = refl

cased_u : (cs : List Bool) (a : Letters) → plain_u (cased_as cs a) ≡ plain_u a
cased_u cs [] = refl
cased_u cs (x ∷ a) = refl

cased_i : (cs : List Bool) (a : Letters) → i_and_another (cased_as cs a) ≡ i_and_another a
cased_i cs [] = refl
cased_i cs (x ∷ a) = simp (cased_nil (other_cases cs) a)

-- an initial before a nucleus, and a final after them
module _ (p : List Bool) (i n : Letters) where
  pub fit_cased : (q : List Bool) → fit (cased_as p i) (first_base (cased_as q n)) ≡ fit i (first_base n)
  unfolding fit
  fit_cased q = simp (cased_same p i, cased_one p i, cased_first q n)

  pub stands_cased : stands (cased_as p i) n ≡ stands i n
  stands_cased = simp (cased_same p i, cased_one p i, cased_nil p i)

  pub joins_cased : (q : List Bool) → joins (cased_as p i) (cased_as q n) ≡ joins i n
  unfolding joins
  joins_cased q = simp (cased_same p i, cased_u q n, cased_i q n)

  pub takes_cased : (q : List Bool) (r : Row) (f : Letters) → takes (cased_as p i) r n (cased_as q f) ≡ takes i r n f
  takes_cased q r f = simp (cased_same p i, cased_same q f, cased_one q f, cased_nil q f)
