-- How many forms there are: a form's number, made of its letters alone, and the tones that it takes.
use Rattle.std.specs.Prelude.{◌≡◌, Bool, true, false, ◌&&◌, List, [], ◌∷◌, ℕ, suc, ◌+◌, ◌*◌, T, eqb, leb, length}
use Rattle.rules.specs.Letters.{Letters, same, no_tone, acute, grave, hook, tilde, dot}
use Rattle.rules.specs.TakingApart.{Row, rows, initials, finals, initial, nucleus, final, fits, verdict}
use Rattle.forms.specs.Forms.{gather_rows}

-- how many of the six tones fit the final of each of these, all together
abbrev pub fitting : Letters → List ℕ → ℕ
fitting f [] = 0
fitting f (t ∷ ts) = elim (fits f t) [ true ↦ suc (fitting f ts) | false ↦ fitting f ts ]

abbrev pub with_tones : List Letters → ℕ
with_tones [] = 0
with_tones (w ∷ ws) = fitting (final w) (no_tone ∷ acute ∷ grave ∷ hook ∷ tilde ∷ dot ∷ []) + with_tones ws

-- the place of its initial, its nucleus and its final in their lists, as one number
abbrev pub list_place : List Letters → Letters → ℕ
list_place [] w = 0
list_place (z ∷ zs) w = elim (same w z) [ true ↦ 0 | false ↦ suc (list_place zs w) ]

abbrev alone : Row → Letters → List Letters
alone r n = n ∷ []

abbrev pub nuclei : List Letters
nuclei = gather_rows alone rows

abbrev pub form_number : Letters → ℕ
form_number w = (list_place initials (initial w) * length nuclei + list_place nuclei (nucleus w)) * length finals + list_place finals (final w)

-- each has a higher number than the one before
abbrev pub ascending : ℕ → List Letters → Bool
ascending least [] = true
ascending least (w ∷ ws) = leb least (form_number w) && ascending (suc (form_number w)) ws

-- no two are equal
pub data Unlike (w : Letters) : List Letters → Type 0 where
  no_other : Unlike w []
  not_this : {z : Letters} {zs : List Letters} → (w ≡ z → T false) → Unlike w zs → Unlike w (z ∷ zs)

pub data Different : List Letters → Type 0 where
  no_forms : Different []
  and_these : {w : Letters} {ws : List Letters} → Unlike w ws → Different ws → Different (w ∷ ws)

-- valid with the acute, which fits every final
abbrev pub is_valid : Letters → Bool
is_valid w = eqb (verdict w acute) 0
