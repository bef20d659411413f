-- Where a shape key acted, the letters that it leaves are admitted: those asked about are those written.
use mathlib.Core.Path.{◌≡◌, sym, ap, subst, ◌∙◌}
use mathlib.Core.Bool.{Bool, true, false}
use lib.Dec.{T}
use Prim.Native.Nat.{ℕ}
use Rattle.rules.specs.Letters.{Letters, circumflex, breve, horn}
use Rattle.rules.specs.TakingApart.{admitted}
use Rattle.rules.specs.TheWord.{State, Typed, acted}
use Rattle.rules.specs.KeyRoles.{Found, nowhere, already, fresh, Edit, nothing, off, change, only_if, asked, first, circumflex_on, circumflexed, breved, horned, shape_edit, role, letter_of_key, unless_closed, key_does}
use Rattle.rules.specs.declared.Touched.{Touched}
use Rattle.rules.specs.declared.Act.{Act}
use Rattle.rules.specs.declared.Role.{Role}
use Rattle.rules.specs.declared.Role.TheVariants.{ShapeRole}
use Rattle.rules.specs.declared.ShapeKey.{ShapeKey}
use Rattle.rules.specs.declared.ShapeKey.TheVariants.{CircumflexOn, Circumflex, Breve, Horn, HornBreve}
use Rattle.rules.proofs.Commute.{Acts, by_shape, acts}

data Admits : Edit → Type 0 where
  admits_none : Admits nothing
  admits_off : {g : Touched} {w : Letters} → Admits (off g w)
  admits : {a : Act} {g : Touched} {w : Letters} → T (admitted w) → Admits (change a g w)

admits_if : (b : Bool) {e : Edit} → (T b → Admits e) → Admits (only_if b e)
admits_if true h = h tt
admits_if false h = admits_none

admits_asked : (sh : ℕ) (f : Found) → Admits (asked sh f)
admits_asked sh nowhere = admits_none
admits_asked sh (already g w) = admits_off
admits_asked sh (fresh g w) = admits_if (admitted w) (λ t. admits t)

admits_first : {e f : Edit} → Admits e → Admits f → Admits (first e f)
admits_first admits_none q = q
admits_first admits_off q = admits_off
admits_first (admits t) q = admits t

admits_shape : (h : ShapeKey) (w : Letters) → Admits (shape_edit h w)
admits_shape (CircumflexOn b) w = admits_asked circumflex (circumflex_on b w)
admits_shape Circumflex w = admits_asked circumflex (circumflexed w)
admits_shape Breve w = admits_asked breve (breved w)
admits_shape Horn w = admits_asked horn (horned w)
admits_shape HornBreve w = search (admits_first, admits_asked)

of_change : {a : Act} {g : Touched} {w : Letters} → Admits (change a g w) → T (admitted w)
of_change (admits t) = t

left_admitted : {h : ShapeKey} {s t : State} {a : Act} {g : Touched} → Acts (ShapeRole h) s a g t → T (admitted t.letters)
left_admitted (by_shape {s = s} {h = h} e) = of_change (subst Admits e (admits_shape h s.letters))

pub shape_admitted : (z : Typed) (k : ℕ) {h : ShapeKey} {a : Act} {g : Touched} {t : State} → z.state.closed ≡ false → role z.mode k ≡ ShapeRole h → key_does z k ≡ acted a g t → T (admitted t.letters)
shape_admitted z k {h} {a} {g} {t} o r e =
    left_admitted
    (acts (ShapeRole h) z.state (letter_of_key k)
    (sym (ap (λ (q : Role). unless_closed false q z.state (letter_of_key k)) r) ∙ ap (λ (c : Bool). unless_closed c (role z.mode k) z.state (letter_of_key k)) (sym o) ∙ e))
