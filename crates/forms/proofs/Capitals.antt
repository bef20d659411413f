-- Which letters are capitals: a key that acts or is appended keeps it, and letters that are the same but for their case, with the same capitals, are the same.
use mathlib.Core.Path.{◌≡◌, refl, sym, ap, subst, ◌∙◌}
use mathlib.Core.Bool.{Bool}
use mathlib.Core.List.{List, [], ◌∷◌, ◌++◌}
use Prim.Native.Nat.{ℕ}
use lib.Dec.{T}
use Rattle.rules.specs.Letters.{Letter, Letters, same}
use Rattle.rules.specs.TakingApart.{admitted, final}
use Rattle.rules.specs.TheWord.{State}
use Rattle.rules.specs.KeyRoles.{takes_second_horn, horn_on_u_if, append, change}
use Rattle.rules.specs.declared.Touched.{Touched}
use Rattle.rules.specs.declared.Act.{Act}
use Rattle.rules.specs.declared.Role.{Role}
use Rattle.rules.proofs.Edits.{Alike, end, kept, moved, Good, good, good_shape, good_stroke, alike_second}
use Rattle.rules.proofs.Commute.{Acts, by_tone, by_clear, by_shape, by_stroke}
use Rattle.forms.specs.Forms.{capitals, cased_as}
use Rattle.forms.proofs.Cases.{same_cased}

pub capitals_append : (v w : Letters) → capitals (v ++ w) ≡ capitals v ++ capitals w
capitals_append [] w = refl
capitals_append (x ∷ v) w = ap (◌∷◌ x.capital) (capitals_append v w)

cased_self : (w : Letters) → cased_as (capitals w) w ≡ w
cased_self [] = refl
cased_self (x ∷ w) = ap (◌∷◌ x) (cased_self w)

pub same_capitals : (v w : Letters) → T (same v w) → capitals v ≡ capitals w → v ≡ w
same_capitals v w t e = same_cased v w t ∙ ap (λ (c : List Bool). cased_as c w) e ∙ cased_self w

capitals_alike : {changed : ℕ → Bool} {v w : Letters} → Alike changed v w → capitals v ≡ capitals w
capitals_alike end = refl
capitals_alike (kept {x = x} r) = ap (◌∷◌ x.capital) (capitals_alike r)
capitals_alike (moved {x = x} sh t c r) = ap (◌∷◌ x.capital) (capitals_alike r)

pub capitals_appended : (s : State) (k : Letter) → capitals (append s k).letters ≡ capitals s.letters ++ (k.capital ∷ [])
capitals_appended s k =
    capitals_append (horn_on_u_if (takes_second_horn s k) s.letters) (k ∷ []) ∙ ap (λ (l : List Bool). l ++ (k.capital ∷ [])) (sym (capitals_alike (alike_second (takes_second_horn s k) s.letters)))

-- what a key that acts leaves: the same capitals, the same final, and letters admitted if they were
pub record Left (v w : Letters) : Type 0 where
  pub caps : capitals v ≡ capitals w
  pub ends : final v ≡ final w
  pub still : T (admitted v) → T (admitted w)

pub left_good : {v w : Letters} {a : Act} {g : Touched} → Good v (change a g w) → Left v w
left_good (good c r y p h) = record { caps = capitals_alike r; ends = p; still = h }

pub left : {r : Role} {s t : State} {a : Act} {g : Touched} → Acts r s a g t → Left s.letters t.letters
left (by_tone t c f) = record { caps = refl; ends = refl; still = λ h. h }
left (by_clear c) = record { caps = refl; ends = refl; still = λ h. h }
left (by_shape {s = s} {h = h} e) = left_good (subst (Good s.letters) e (good_shape h s.letters))
left (by_stroke {s = s} e) = left_good (subst (Good s.letters) e (good_stroke s.letters))
