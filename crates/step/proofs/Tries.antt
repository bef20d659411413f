-- The tries of Telex w in order: the second where the first is none, and so left the letters as they were.
use mathlib.Core.Path.{◌≡◌, refl, sym, ap, subst, ◌∙◌}
use mathlib.Core.List.{List, [], ◌∷◌}
use mathlib.Core.Logic.{◌⊎◌, inl, inr}
use Prim.Native.Nat.{ℕ}
use native.Mathlib.Omega.{arith}
use types.Run.{OneOf}
use borrow.Enum.Refused.{Among, opened}
use denote.Enum.Declared.{tag_of}
use Rattle.rules.specs.KeyRoles as Rules
use Rattle.rules.specs.KeyRoles.{nothing, off, change, first}
use Rattle.step.specs.declared.Edit.{Edit}
use Rattle.step.specs.declared.Edit.TheVariants.{Nothing}
use Rattle.step.specs.LentLetters.{kind_of, edited_in, Edits}
use Rattle.step.specs.contracts.Edit.{the_type}

-- no edit
is_none : (e : Rules.Edit) → kind_of e ≡ Nothing → e ≡ nothing
is_none nothing p = refl
is_none (off g w) p = let z : ◌≡◌ {A = ℕ} 0 1 = cc in absurd (omega arith)
is_none (change a g w) p = let z : ◌≡◌ {A = ℕ} 0 1 = cc in absurd (omega arith)

module _ {e : Rules.Edit} {l : List ℕ} {r : Edit} {m : List ℕ} (tried : Edits e l r m) where
  none : r ≡ Nothing → e ≡ nothing
  none p = is_none _ (sym tried.told ∙ p)

  pub untouched : r ≡ Nothing → m ≡ l
  untouched p = tried.left ∙ ap (edited_in l) (none p)

  -- the second try
  pub second : (f : List ℕ → Rules.Edit) {r' : Edit} {m' : List ℕ} → r ≡ Nothing → Edits (f m) m r' m' → Edits (first e (f l)) l r' m'
  second f {r'} {m'} p q = subst (λ (d : Rules.Edit). Edits (first d (f l)) l r' m') (sym (none p)) (subst (λ (k : List ℕ). Edits (f k) k r' m') (untouched p) q)

-- an edit: the first
not_none : (◌≡◌ {A = ℕ} 0 1) ⊎ (◌≡◌ {A = ℕ} 0 2) → ⊥
not_none (inl z) = omega arith
not_none (inr z) = omega arith

pub only_first : (e f : Rules.Edit) {l : List ℕ} {r : Edit} {m : List ℕ} → Edits e l r m → Among (1 ∷ 2 ∷ []) (tag_of the_type r) → Edits (first e f) l r m
only_first nothing f p o = absurd (not_none (subst (λ (k : Edit). OneOf (1 ∷ 2 ∷ []) (tag_of the_type k)) p.told (opened o)))
only_first (off g w) f p o = p
only_first (change a g w) f p o = p
