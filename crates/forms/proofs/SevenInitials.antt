-- Tests over all forms are computed seven initials at a time, and put together here.
use mathlib.Core.Path.{◌≡◌, refl, sym, ap, subst, ◌∙◌}
use mathlib.Core.Bool.{Bool}
use mathlib.Core.List.{List, [], ◌∷◌, ◌++◌, append_assoc}
use Prim.Native.Nat.{ℕ}
use lib.Dec.{T}
use lib.ListN.{take, drop}
use lib.Ieee.Fits.{and_i, and_l, and_r}
use Rattle.rules.specs.Letters.{Letters}
use Rattle.rules.specs.TakingApart.{initials}
use Rattle.forms.specs.Forms.{gather, with_initial, all_forms, every, in_cases, EveryForm}

abbrev pub forms_from : ℕ → List Letters
forms_from n = gather with_initial (take 7 (drop n initials))

-- the forms with seven initials, from the n-th on
abbrev pub Pass : (Letters → Bool) → ℕ → Type 0
Pass f n = (cs : List Bool) → T (every (in_cases f cs) (forms_from n))

every_append : (g : Letters → Bool) (xs ys : List Letters) → T (every g xs) → T (every g ys) → T (every g (xs ++ ys))
every_append g [] ys t u = u
every_append g (x ∷ xs) ys t u = and_i (g x) (every g (xs ++ ys)) (and_l (g x) (every g xs) t) (every_append g xs ys (and_r (g x) (every g xs) t) u)

gather_append : (k : Letters → List Letters) (xs ys : List Letters) → gather k (xs ++ ys) ≡ gather k xs ++ gather k ys
gather_append k [] ys = refl
gather_append k (x ∷ xs) ys = ap (◌++◌ (k x)) (gather_append k xs ys) ∙ sym (append_assoc (k x) (gather k xs) (gather k ys))

pub in_four : all_forms ≡ forms_from 0 ++ (forms_from 7 ++ (forms_from 14 ++ forms_from 21))
unfolding all_forms
in_four =
    let seven : ℕ → List Letters = λ n. take 7 (drop n initials) in
    gather_append with_initial (seven 0) (seven 7 ++ (seven 14 ++ seven 21)) ∙
    ap (◌++◌ (forms_from 0)) (gather_append with_initial (seven 7) (seven 14 ++ seven 21) ∙ ap (◌++◌ (forms_from 7)) (gather_append with_initial (seven 14) (seven 21)))

pub together : (f : Letters → Bool) → Pass f 0 → Pass f 7 → Pass f 14 → Pass f 21 → EveryForm f
together f a b c d cs =
    let g = in_cases f cs in
    subst (λ (zs : List Letters). T (every g zs)) (sym in_four)
    (every_append g (forms_from 0) (forms_from 7 ++ (forms_from 14 ++ forms_from 21)) (a cs)
    (every_append g (forms_from 7) (forms_from 14 ++ forms_from 21) (b cs) (every_append g (forms_from 14) (forms_from 21) (c cs) (d cs))))
