-- The tests that are computed over the forms.
use mathlib.Core.Bool.{Bool, true, false, ◌&&◌, ◌||◌}
use mathlib.Core.List.{List, [], ◌∷◌, map}
use Prim.Native.Nat.{ℕ}
use lib.Dec.{leb}
use lib.ListN.{length}
use Rattle.rules.specs.Letters.{Letters, horn, same}
use Rattle.rules.specs.KeyRoles.{is_key, role, Found, nowhere, already, fresh, circumflex_on, circumflexed, breved, horned, Edit, nothing, off, change, asked, stroke_edit}
use Rattle.rules.specs.Speller.{letter_keys}
use Rattle.rules.specs.Refusals.{all}
use Rattle.rules.specs.declared.Role.{Role}
use Rattle.rules.specs.declared.Role.TheVariants.{ToneRole, ShapeRole, StrokeRole, NoRole}
use Rattle.rules.specs.declared.ShapeKey.{ShapeKey}
use Rattle.rules.specs.declared.ShapeKey.TheVariants.{CircumflexOn, Circumflex, Breve, Horn, HornBreve}
use Rattle.rules.specs.Syllables.{mark_keys}
use Rattle.forms.proofs.KeyCourses.{letter, course, bare, edit_by, types_to}

abbrev pub is_change : Edit → Bool
is_change nothing = false
is_change (off g w) = false
is_change (change a g w) = true

abbrev pub is_nothing : Edit → Bool
is_nothing nothing = true
is_nothing (off g w) = false
is_nothing (change a g w) = false

abbrev pub changes_to : Letters → Edit → Bool
changes_to w nothing = false
changes_to w (off g v) = false
changes_to w (change a g v) = same v w

abbrev pub is_stroke : Role → Bool
is_stroke (ToneRole t) = false
is_stroke (ShapeRole h) = false
is_stroke StrokeRole = true
is_stroke NoRole = false

abbrev pub is_shape : Role → Bool
is_shape (ToneRole t) = false
is_shape (ShapeRole h) = true
is_shape StrokeRole = false
is_shape NoRole = false

-- a stroke and a shape
abbrev pub apart : Role → Role → Bool
apart (ToneRole t) q = false
apart (ShapeRole h) q = is_stroke q
apart StrokeRole q = is_shape q
apart NoRole q = false

-- each of these roles would act on these letters alone, and is of another family than r
abbrev pub alone : Role → List Role → Letters → Bool
alone r [] v = true
alone r (q ∷ qs) v = apart r q && (is_change (edit_by q v) && alone r qs v)

-- a search finds letters that are these, but for their case
abbrev pub fresh_is : Letters → Found → Bool
fresh_is w nowhere = false
fresh_is w (already g v) = false
fresh_is w (fresh g v) = same v w

-- a shape key leads from v to w, where w is admitted
abbrev pub leads : ShapeKey → Letters → Letters → Bool
leads (CircumflexOn b) v w = fresh_is w (circumflex_on b v)
leads Circumflex v w = fresh_is w (circumflexed v)
leads Breve v w = fresh_is w (breved v)
leads Horn v w = fresh_is w (horned v)
leads HornBreve v w = fresh_is w (horned v) || (is_nothing (asked horn (horned v)) && fresh_is w (breved v))

abbrev pub last_step : Letters → Role → Letters → Bool
last_step w (ToneRole t) v = false
last_step w (ShapeRole h) v = leads h v w
last_step w StrokeRole v = changes_to w (stroke_edit v)
last_step w NoRole v = false

-- each of these roles acts, alone and one after the other, and the letters are then these
abbrev pub chain : Letters → List Role → Letters → Bool
chain w [] v = same v w
chain w (r ∷ []) v = last_step w r v
chain w (r ∷ q ∷ qs) v =
    elim (edit_by r v) [
      | nothing ↦ false
      | off g u ↦ false
      | change a g u ↦ chain w (q ∷ qs) u && alone r (q ∷ qs) v
    ]

-- the bare letters are appended, each as a letter, and the marks act on them and give the word
abbrev pub bare_test : ℕ → Letters → Bool
bare_test mode w = types_to mode (map letter w) (bare w) && chain w (map (role mode) (mark_keys mode w)) (bare w)

-- the standard list, without the tone key, is typed as it says and gives the word; it has at most 8 keys, and its stroke and shape keys are allowed
abbrev pub list_test : ℕ → Letters → Bool
list_test mode w = types_to mode (course mode w) w && (leb (length (letter_keys mode w)) 8 && all (is_key mode) (mark_keys mode w))

abbrev pub word_test : ℕ → Letters → Bool
word_test mode w = bare_test mode w && list_test mode w
