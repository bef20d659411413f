-- Tests over a list: where some of it passes one test and every one of it another, one passes both.
use mathlib.Core.Bool.{Bool, true, ◌&&◌}
use mathlib.Core.List.{List, [], ◌∷◌}
use lib.Dec.{T}
use lib.Ieee.Fits.{and_l, and_r}
use Rattle.rules.specs.Letters.{Letters, some_word}
use Rattle.rules.specs.TakingApart.{Row, some_row}
use Rattle.rules.proofs.Bools.{either}
use Rattle.forms.specs.Forms.{every}

pub record Met (f g : Letters → Bool) : Type 0 where
  pub here : Letters
  pub one : T (f here)
  pub other : T (g here)

pub meet : (f g : Letters → Bool) (zs : List Letters) → T (some_word f zs) → T (every g zs) → Met f g
meet f g (z ∷ zs) t u = either (f z) (some_word f zs) (λ h. record { here = z; one = h; other = and_l (g z) (every g zs) u }) (λ h. meet f g zs h (and_r (g z) (every g zs) u)) t
meet f g [] t u = elim t [ ]

-- the nuclei of the rows
abbrev pub every_row : (Letters → Bool) → List Row → Bool
every_row f [] = true
every_row f (r ∷ rs) = every f r.nuclei && every_row f rs

pub record MetRow (f : Row → Letters → Bool) (g : Letters → Bool) : Type 0 where
  pub row : Row
  pub here : Letters
  pub one : T (f row here)
  pub other : T (g here)

pub meet_row : (f : Row → Letters → Bool) (g : Letters → Bool) (rs : List Row) → T (some_row f rs) → T (every_row g rs) → MetRow f g
meet_row f g (r ∷ rs) t u =
    either (some_word (f r) r.nuclei) (some_row f rs)
    (λ h. let p = meet (f r) g r.nuclei h (and_l (every g r.nuclei) (every_row g rs) u) in record { row = r; here = p.here; one = p.one; other = p.other })
    (λ h. meet_row f g rs h (and_r (every g r.nuclei) (every_row g rs) u)) t
meet_row f g [] t u = elim t [ ]
