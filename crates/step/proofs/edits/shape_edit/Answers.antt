-- `step::edits::shape_edit` meets its contract: each key has its edit.
use mathlib.Core.Path.{◌≡◌, refl, sym, ap, subst, ◌∙◌}
use mathlib.Core.List.{List, map}
use Prim.Native.Nat.{ℕ}
use Rattle.rules.specs.Letters.{Letters, circumflex, breve}
use Rattle.rules.specs.TheWord.{letter}
use Rattle.rules.specs.KeyRoles as Rules
use Rattle.rules.specs.KeyRoles.{asked, last, shape_edit}
use Rattle.rules.specs.declared.ShapeKey.{ShapeKey}
use Rattle.targets.specs.Places.{wanted}
use Rattle.step.specs.declared.Edit.{Edit}
use Rattle.step.specs.LentLetters.{Edits}
use Rattle.step.proofs.edits.shape_edit.Goals as goal

-- the edit of a key that is known
as_key : (w : Letters) {key k : ShapeKey} {l : List ℕ} {r : Edit} {m : List ℕ} → key ≡ k → Edits (shape_edit k w) l r m → Edits (shape_edit key w) l r m
as_key w {l = l} {r = r} {m = m} e p = subst (λ (x : ShapeKey). Edits (shape_edit x w) l r m) (sym e) p

by_key : (kind : ℕ) (w : Letters) {key k : ShapeKey} {l : List ℕ} {r : Edit} {m : List ℕ} → key ≡ k → asked kind (last (wanted k) kind w) ≡ shape_edit k w → Edits (asked kind (last (wanted key) kind w)) l r m → Edits (shape_edit key w) l r m
by_key kind w {l = l} {r = r} {m = m} e p q =
    as_key w e (subst (λ (d : Rules.Edit). Edits d l r m) (ap (λ (x : ShapeKey). asked kind (last (wanted x) kind w)) e ∙ p) q)

pub returns-in-CircumflexOn : goal.returns-in-CircumflexOn
returns-in-CircumflexOn c = as_key (map letter c.args.letters.now) c.in-CircumflexOn.is c.own_edit.ensures

pub returns-in-Circumflex : goal.returns-in-Circumflex
returns-in-Circumflex c = by_key circumflex (map letter c.args.letters.now) c.in-Circumflex.is refl c.last_edit.ensures

pub returns-in-Breve : goal.returns-in-Breve
returns-in-Breve c = by_key breve (map letter c.args.letters.now) c.in-Breve.is refl c.last_edit-in-Breve.ensures

pub returns-in-Horn : goal.returns-in-Horn
returns-in-Horn c = as_key (map letter c.args.letters.now) c.in-Horn.is c.horn_edit.ensures

pub returns-in-HornBreve : goal.returns-in-HornBreve
returns-in-HornBreve c = as_key (map letter c.args.letters.now) c.in-HornBreve.is c.horn_or_breve.ensures
