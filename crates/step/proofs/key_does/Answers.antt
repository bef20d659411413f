-- `step::key_does` meets its contract: each arm is the rule of its role.
use mathlib.Core.Path.{◌≡◌, refl, sym, ap, ◌∙◌}
use mathlib.Core.Bool.{Bool, true, false}
use mathlib.Core.List.{List}
use Prim.Native.Nat.{ℕ}
use Rattle.rules.specs.Letters.{Letter}
use Rattle.rules.specs.TheWord.{State}
use Rattle.rules.specs.KeyRoles.{letter_of_key, unless_closed, role_does, role}
use Rattle.rules.specs.declared.Role.{Role}
use Rattle.rules.proofs.Edits.{good_shape, good_stroke}
use Rattle.step.specs.declared.Rest.{Rest}
use Rattle.step.specs.LentLetters.{state_in, unless_closed_role}
use Rattle.step.proofs.States.{as_ruled, in_front, room_after, edit_then}
use Rattle.step.proofs.SecondHorns.{by_its_role, room_then, horn_then}
use Rattle.step.proofs.key_does.Goals as goal

-- a closed word's keys have no role, and so are appended
as_role : (b : Bool) (r : Role) (s : State) (k : Letter) → unless_closed b r s k ≡ role_does (unless_closed_role b r) s k
as_role true r s k = refl
as_role false r s k = refl

-- what a known role does
by_role : (l : List ℕ) (rest : Rest) (mode key : ℕ) {r q : Role} → q ≡ unless_closed_role rest.closed (role mode key) → q ≡ r → unless_closed rest.closed (role mode key) (state_in l rest) (letter_of_key key) ≡ role_does r (state_in l rest) (letter_of_key key)
by_role l rest mode key e g = as_role rest.closed (role mode key) (state_in l rest) (letter_of_key key) ∙ ap (λ (x : Role). role_does x (state_in l rest) (letter_of_key key)) (sym e ∙ g)

pub tone_key-requires : goal.tone_key-requires
tone_key-requires c = (c.requires.0, by_its_role c.args.rest.closed c.args.mode c.args.key c.role_in.ensures c.in-ToneRole.is tt)

pub edit_does-requires : goal.edit_does-requires
edit_does-requires c = (
  room_after c.args.mode c.args.letters.now c.args.rest c.requires.0 c.requires.1 (good_shape c.in-ShapeRole.shape _) (in_front c.args.mode c.args.letters.now c.args.rest c.requires.0 c.requires.1 (good_shape c.in-ShapeRole.shape _) c.shape_edit-edit.ensures),
  by_its_role c.args.rest.closed c.args.mode c.args.key c.role_in.ensures c.in-ShapeRole.is tt,
)

pub edit_does-requires-in-StrokeRole : goal.edit_does-requires-in-StrokeRole
edit_does-requires-in-StrokeRole c = (
  room_after c.args.mode c.args.letters.now c.args.rest c.requires.0 c.requires.1 (good_stroke _) (in_front c.args.mode c.args.letters.now c.args.rest c.requires.0 c.requires.1 (good_stroke _) c.stroke_edit-edit.ensures),
  by_its_role c.args.rest.closed c.args.mode c.args.key c.role_in.ensures c.in-StrokeRole.is tt,
)

pub appended-requires : goal.appended-requires
appended-requires c = room_then c.args.letters.now c.args.rest (letter_of_key c.args.key) _ _ c.second_horn-touched.ensures c.requires.0

pub returns-in-ToneRole : goal.returns-in-ToneRole
returns-in-ToneRole c = as_ruled (by_role c.args.letters.now c.args.rest c.args.mode c.args.key c.role_in.ensures c.in-ToneRole.is) c.tone_key.ensures

pub returns-in-ShapeRole : goal.returns-in-ShapeRole
returns-in-ShapeRole c =
    as_ruled (by_role c.args.letters.now c.args.rest c.args.mode c.args.key c.role_in.ensures c.in-ShapeRole.is)
    (edit_then c.args.mode c.args.letters.now c.args.rest c.requires.0 c.requires.1 (letter_of_key c.args.key) (good_shape c.in-ShapeRole.shape _) (in_front c.args.mode c.args.letters.now c.args.rest c.requires.0 c.requires.1 (good_shape c.in-ShapeRole.shape _) c.shape_edit-edit.ensures) c.edit_does.ensures)

pub returns-in-StrokeRole : goal.returns-in-StrokeRole
returns-in-StrokeRole c =
    as_ruled (by_role c.args.letters.now c.args.rest c.args.mode c.args.key c.role_in.ensures c.in-StrokeRole.is)
    (edit_then c.args.mode c.args.letters.now c.args.rest c.requires.0 c.requires.1 (letter_of_key c.args.key) (good_stroke _) (in_front c.args.mode c.args.letters.now c.args.rest c.requires.0 c.requires.1 (good_stroke _) c.stroke_edit-edit.ensures) c.edit_does-in-StrokeRole.ensures)

pub returns-in-NoRole : goal.returns-in-NoRole
returns-in-NoRole c =
    as_ruled (by_role c.args.letters.now c.args.rest c.args.mode c.args.key c.role_in.ensures c.in-NoRole.is)
    (horn_then c.args.letters.now c.args.rest (letter_of_key c.args.key) _ _ c.second_horn-touched.ensures c.requires.0 c.appended.ensures)
