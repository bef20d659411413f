-- The nuclei with the same base letters: none for a number that is no key of `with_bases`, and each a table's word. Assumes nothing.
use mathlib.Core.Path.{◌≡◌, refl, sym, ap, subst}
use mathlib.Core.Bool.{Bool, true, false, ◌&&◌}
use mathlib.Core.List.{List, [], ◌∷◌}
use Prim.Native.Nat.{ℕ, zero, suc, ◌≤◌}
use native.Mathlib.Omega.{arith}
use lib.Dec.{T, eqb, leb, leb→le}
use lib.ListN.{length, get_or}
use lib.Ieee.Fits.{and_l, and_r, and_i}
use Rattle.rules.specs.Letters.{Letters, elem}
use Rattle.rules.specs.TakingApart.{rows}
use Rattle.syllable.specs.Numbers.{num, plain_of, short}
use Rattle.syllable.specs.Nuclei.{nuclei_of, with_bases_in, with_bases, three_of}
use Rattle.rules.proofs.Bools.{pick, eqb_case}
use Rattle.rules.proofs.Arms.{Passed, NoneOf, none_of, none_elem}
use Rattle.syllable.proofs.PackedWords.{shorts}

-- the base letters of the list, each where it first appears: the keys, in the order of the arms
abbrev firsts : List ℕ → List Letters → List ℕ
firsts seen [] = []
firsts seen (z ∷ zs) = elim (elem (plain_of (num z)) seen) [ true ↦ firsts seen zs | false ↦ plain_of (num z) ∷ firsts (plain_of (num z) ∷ seen) zs ]

abbrev pub plains : List ℕ
plains = firsts [] (nuclei_of rows)

-- at a key
pub found : {p k : ℕ} → p ≡ k → T (leb (length (with_bases k)) 3) → (three_of (with_bases k) ≡ three_of (with_bases p)) × (length (with_bases p) ≤ 3)
found {p} {k} e t = (ap (λ (n : ℕ). three_of (with_bases n)) (sym e), rw e (leb→le (length (with_bases k)) 3 t))

-- at any other number
abbrev all_plains : List Letters → Bool
all_plains [] = true
all_plains (z ∷ zs) = elem (plain_of (num z)) plains && all_plains zs

none_with : (p : ℕ) → NoneOf p plains → (zs : List Letters) → T (all_plains zs) → with_bases_in p zs ≡ []
none_with p h [] t = refl
none_with p h (z ∷ zs) t =
    eqb_case (λ b. pick (z ∷ with_bases_in p zs) b (with_bases_in p zs) ≡ []) p (plain_of (num z))
    (λ e. absurd (none_elem p plains h (subst (λ (n : ℕ). T (elem n plains)) (sym e) (and_l (elem (plain_of (num z)) plains) (all_plains zs) t))))
    (λ _. none_with p h zs (and_r (elem (plain_of (num z)) plains) (all_plains zs) t))

pub missing : (p : ℕ) → Passed (◌≡◌ p) (Unit {0}) plains → (three_of [] ≡ three_of (with_bases p)) × (length (with_bases p) ≤ 3)
unfolding with_bases
missing p h = let e : with_bases p ≡ [] = none_with p (none_of (Unit {0}) p plains h) (nuclei_of rows) tt in (ap three_of (sym e), rw e (omega arith))

-- each of them is a table's word
shorts_with : (p : ℕ) (zs : List Letters) → T (shorts zs) → T (shorts (with_bases_in p zs))
shorts_with p [] t = tt
shorts_with p (z ∷ zs) t = go (eqb p (plain_of (num z))) (shorts_with p zs (and_r (short z) (shorts zs) t))
  where
    go : (b : Bool) → T (shorts (with_bases_in p zs)) → T (shorts (pick (z ∷ with_bases_in p zs) b (with_bases_in p zs)))
    go true r = and_i (short z) (shorts (with_bases_in p zs)) (and_l (short z) (shorts zs) t) r
    go false r = r

short_at : (k : ℕ) (zs : List Letters) → T (shorts zs) → T (short (get_or zs k []))
short_at k [] t = tt
short_at zero (z ∷ zs) t = and_l (short z) (shorts zs) t
short_at (suc k) (z ∷ zs) t = short_at k zs (and_r (short z) (shorts zs) t)

pub short_with : (p k : ℕ) → T (short (get_or (with_bases p) k []))
unfolding with_bases
short_with p k = short_at k (with_bases p) (shorts_with p (nuclei_of rows) tt)
