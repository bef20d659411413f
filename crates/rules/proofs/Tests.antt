-- Tests that hold: what follows from one of a list, from both, from a choice; and a test over one list behind another.
use mathlib.Core.Path.{◌≡◌, refl, sym, ap, ap₂, subst, ◌∙◌}
use mathlib.Core.Bool.{Bool, true, false, not, ◌||◌}
use mathlib.Core.List.{List, [], ◌∷◌, ◌++◌}
use Prim.Native.Nat.{ℕ}
use lib.Dec.{T, eqb, eqb→eq}
use lib.Ieee.Fits.{and_l, and_r}
use Rattle.rules.specs.Letters.{Letter, Letters, elem, is, some_word}
use Rattle.rules.specs.TakingApart.{Row, some_row}
use Rattle.rules.specs.Refusals.{all}
use Rattle.rules.proofs.Bools.{pick, or_pick}

pub either : (p q : Bool) {P : Type 0} → (T p → P) → (T q → P) → T (p || q) → P
either true q f g t = f tt
either false q f g t = g t

pub or_l : (p q : Bool) → T p → T (p || q)
or_l true q t = tt
or_l false q t = absurd t

pub or_r : (p q : Bool) → T q → T (p || q)
or_r true q t = tt
or_r false q t = t

-- a test that holds is true, one that does not is false
pub is_true : (b : Bool) → T b → b ≡ true
is_true true t = refl
is_true false t = absurd t

pub is_false : (b : Bool) → T (not b) → b ≡ false
is_false true t = absurd t
is_false false t = refl

-- a number that is one of a list passes what each of the list passes
pub of_elem : (f : ℕ → Bool) (b : ℕ) (bs : List ℕ) → T (all f bs) → T (elem b bs) → T (f b)
of_elem f b [] h t = absurd t
of_elem f b (x ∷ []) h t = subst (λ (n : ℕ). T (f n)) (sym (eqb→eq b x t)) (and_l (f x) true h)
of_elem f b (x ∷ y ∷ ys) h t =
    either (eqb b x) (elem b (y ∷ ys))
    (λ e. subst (λ (n : ℕ). T (f n)) (sym (eqb→eq b x e)) (and_l (f x) (all f (y ∷ ys)) h))
    (of_elem f b (y ∷ ys) (and_r (f x) (all f (y ∷ ys)) h)) t

-- the same letter but for the case
pub is_letter : (x z : Letter) → T (is x z) → x ≡ record { base = z.base; shape = z.shape; capital = x.capital }
is_letter x z t =
    ap₂ (λ (b sh : ℕ). record { base = b; shape = sh; capital = x.capital }) (eqb→eq x.base z.base (search and_l)) (eqb→eq x.shape z.shape (search and_r))

-- what passes a stronger test passes a weaker one: some word of a list, and some nucleus of some row
or_weaker : (a b c d : Bool) → (T a → T b) → (T c → T d) → T (elim a [ true ↦ true | false ↦ c ]) → T (elim b [ true ↦ true | false ↦ d ])
or_weaker a true c d f g t = tt
or_weaker true false c d f g t = absurd (f tt)
or_weaker false false c d f g t = g t

some_so : (f g : Letters → Bool) → ((z : Letters) → T (f z) → T (g z)) → (zs : List Letters) → T (some_word f zs) → T (some_word g zs)
some_so f g h (z ∷ zs) t = or_weaker (f z) (g z) (some_word f zs) (some_word g zs) (h z) (some_so f g h zs) t
some_so f g h [] t = elim t [ ]

pub some_row_so : (f g : Row → Letters → Bool) → ((r : Row) (z : Letters) → T (f r z) → T (g r z)) → (rs : List Row) → T (some_row f rs) → T (some_row g rs)
some_row_so f g h (r ∷ rs) t = or_weaker (some_word (f r) r.nuclei) (some_word (g r) r.nuclei) (some_row f rs) (some_row g rs) (some_so (f r) (g r) (h r) r.nuclei) (some_row_so f g h rs) t
some_row_so f g h [] t = elim t [ ]

-- one list behind another: some of both is some of the first or some of the second
pub some_both : (f : Letters → Bool) (xs ys : List Letters) → some_word f (xs ++ ys) ≡ (some_word f xs || some_word f ys)
some_both f [] ys = refl
some_both f (x ∷ xs) ys = ap (pick true (f x)) (some_both f xs ys) ∙ or_pick (f x) (some_word f xs) (some_word f ys)

pub some_row_both : (f : Row → Letters → Bool) (rs qs : List Row) → some_row f (rs ++ qs) ≡ (some_row f rs || some_row f qs)
some_row_both f [] qs = refl
some_row_both f (r ∷ rs) qs = ap (pick true (some_word (f r) r.nuclei)) (some_row_both f rs qs) ∙ or_pick (some_word (f r) r.nuclei) (some_row f rs) (some_row f qs)
