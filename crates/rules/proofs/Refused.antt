-- Each refusal is given exactly when its condition holds and no earlier one's does; and a refused answer leaves the word and the output as they were.
use Rattle.std.specs.Prelude.{Option, Some, None}
use mathlib.Core.Path.{◌≡◌, refl, sym, ap, ap₂, subst, ◌∙◌}
use mathlib.Core.Bool.{Bool, true, false, not}
use mathlib.Core.List.{List, [], ◌∷◌}
use mathlib.Core.Logic.{◌↔◌, ◌⊎◌, inl, inr}
use Prim.Native.Nat.{ℕ}
use native.Mathlib.Omega.{arith}
use lib.Dec.{T}
use Rattle.rules.specs.Letters.{telex}
use Rattle.rules.specs.TheWord.{new_word}
use Rattle.rules.specs.Refusals.{Call, TableRow, table, first_row, refusal, FirstOf, this_row, later_row, NoneHolds, no_rows, not_this}
use Rattle.rules.specs.WhatComesBack.{start_call, start_or, start, step_call, step_or, step, type_call, type_or, type_all, write_or, show_call, show, word_call, place_or, place_answer, verdict_or, verdict_answer, decision_or, decision_answer, commit_call, commit_or, commit, granted_or, commit_answer, spell_call, spell}
use Rattle.rules.specs.AnswersInNumbers.{Says, answered, refusing, start_says, step_says, type_says, write_says, place_says, verdict_says, decision_says, commit_says}
use Rattle.rules.specs.declared.Word.{Word}
use Rattle.rules.specs.declared.Refusal.{Refusal}

-- Order: 8, 1, 2 (keys before text), 3, 6, 7, 5, 4.
abbrev numbers_of : List TableRow → List ℕ
numbers_of [] = []
numbers_of (r ∷ rs) = r.number ∷ numbers_of rs

pub table_order : (c : Call) → numbers_of (table c) ≡ 8 ∷ 1 ∷ 2 ∷ 2 ∷ 3 ∷ 6 ∷ 7 ∷ 5 ∷ 4 ∷ []
table_order c = refl

data View (rs : List TableRow) : Option Refusal → Type 0 where
  not_refused : NoneHolds rs → View rs None
  refused_by : {x : Refusal} → FirstOf rs x → View rs (Some x)

view : (rs : List TableRow) → View rs (first_row rs)
view [] = not_refused no_rows
view (r ∷ rs) = go r.when refl (view rs)
  where
    next : {o : Option Refusal} → T (not r.when) → View rs o → View (r ∷ rs) o
    next t (not_refused n) = not_refused (not_this t n)
    next t (refused_by f) = refused_by (later_row t f)

    go : (b : Bool) → r.when ≡ b → {o : Option Refusal} → View rs o → View (r ∷ rs) (elim b [ true ↦ Some (record { number = r.number; value = r.returned }) | false ↦ o ])
    go true e h = refused_by (this_row (subst T (sym e) tt))
    go false e h = next (subst (λ (b : Bool). T (not b)) (sym e) tt) h

if_true : (b : Bool) (x o : Option Refusal) → T b → elim b [ true ↦ x | false ↦ o ] ≡ x
if_true true x o t = refl
if_true false x o t = absurd t

if_false : (b : Bool) (x o : Option Refusal) → T (not b) → elim b [ true ↦ x | false ↦ o ] ≡ o
if_false true x o t = absurd t
if_false false x o t = refl

first_given : {rs : List TableRow} {x : Refusal} → FirstOf rs x → first_row rs ≡ Some x
first_given (this_row {r = r} t) = if_true r.when _ _ t
first_given (later_row {r = r} t f) = if_false r.when _ _ t ∙ first_given f

none_given : {rs : List TableRow} → NoneHolds rs → first_row rs ≡ None
none_given no_rows = refl
none_given (not_this {r = r} t n) = if_false r.when _ _ t ∙ none_given n

of_view : {rs : List TableRow} {x : Refusal} → View rs (Some x) → FirstOf rs x
of_view (refused_by f) = f

pub refusal_given : (c : Call) (x : Refusal) → refusal c ≡ Some x ↔ FirstOf (table c) x
unfolding refusal
refusal_given c x = (λ e. of_view (subst (View (table c)) e (view (table c))), first_given)

of_none : {rs : List TableRow} → View rs None → NoneHolds rs
of_none (not_refused n) = n

pub refusal_none : (c : Call) → refusal c ≡ None ↔ NoneHolds (table c)
unfolding refusal
refusal_none c = (λ e. of_none (subst (View (table c)) e (view (table c))), none_given)

-- a call is not refused, or it is, by some row
pub one_or_the_other : (c : Call) → NoneHolds (table c) ⊎ ((x : Refusal) × FirstOf (table c) x)
unfolding refusal
one_or_the_other c = go (view (table c))
  where
    go : {o : Option Refusal} → View (table c) o → NoneHolds (table c) ⊎ ((x : Refusal) × FirstOf (table c) x)
    go (not_refused n) = inl n
    go (refused_by {x = x} f) = inr (x, f)

-- an entry's answer, over the refusal of its call: it is refused with these numbers exactly so
module _ (says : Option Refusal → Says) (vs : List ℕ) (when_none : says None ≡ answered vs) (when_refused : (x : Refusal) → says (Some x) ≡ refusing x) where
  held : (o : Option Refusal) (x : Refusal) → says o ≡ refusing x → o ≡ Some x
  held None x e = let f : answered vs ≡ refusing x = sym when_none ∙ e in let z : ◌≡◌ {A = ℕ} 0 1 = cc in absurd (omega arith)
  held (Some y) x e = let f : refusing y ≡ refusing x = sym (when_refused y) ∙ e in ap₂ (λ (n v : ℕ). Some (record { number = n; value = v })) (cc) (cc)

  exactly : (c : Call) (x : Refusal) → says (refusal c) ≡ refusing x ↔ FirstOf (table c) x
  exactly c x = (λ e. (refusal_given c x).0 (held (refusal c) x e), λ g. ap says ((refusal_given c x).1 g) ∙ when_refused x)

  -- what holds at every refusal holds where it is refused
  where_refused : (P : Option Refusal → Type 0) → ((r : Refusal) → P (Some r)) → (c : Call) (x : Refusal) → says (refusal c) ≡ refusing x → P (refusal c)
  where_refused P h c x e = subst P (sym (held (refusal c) x e)) (h x)

pub start_exactly : (m : ℕ) (x : Refusal) → start_says (start m).answer ≡ refusing x ↔ FirstOf (table (start_call m)) x
start_exactly m x = exactly (λ o. start_says (start_or o m).answer) _ refl (λ y. refl) (start_call m) x

pub step_exactly : (w : Word) (k : ℕ) (x : Refusal) → step_says (step w k).answer ≡ refusing x ↔ FirstOf (table (step_call w k)) x
unfolding step
step_exactly w k x = exactly (λ o. step_says (step_or o w k).answer) _ refl (λ y. refl) (step_call w k) x

pub type_exactly : (m : ℕ) (ks : List ℕ) (x : Refusal) → type_says (type_all m ks).answer ≡ refusing x ↔ FirstOf (table (type_call m ks)) x
unfolding type_all
type_exactly m ks x = exactly (λ o. type_says (type_or o m ks).answer) _ refl (λ y. refl) (type_call m ks) x

pub place_exactly : (w : Word) (x : Refusal) → place_says (place_answer w) ≡ refusing x ↔ FirstOf (table (word_call w)) x
unfolding place_answer
place_exactly w x = exactly (λ o. place_says (place_or o w)) _ refl (λ y. refl) (word_call w) x

pub verdict_exactly : (w : Word) (x : Refusal) → verdict_says (verdict_answer w) ≡ refusing x ↔ FirstOf (table (word_call w)) x
unfolding verdict_answer
verdict_exactly w x = exactly (λ o. verdict_says (verdict_or o w)) _ refl (λ y. refl) (word_call w) x

pub decision_exactly : (w : Word) (x : Refusal) → decision_says (decision_answer w) ≡ refusing x ↔ FirstOf (table (word_call w)) x
unfolding decision_answer
decision_exactly w x = exactly (λ o. decision_says (decision_or o w)) _ refl (λ y. refl) (word_call w) x

pub commit_exactly : (m : ℕ) (ks text : List ℕ) (x : Refusal) → commit_says (commit_answer m ks text) ≡ refusing x ↔ FirstOf (table (commit_call m ks text)) x
unfolding commit_answer
commit_exactly m ks text x = exactly (λ o. commit_says (granted_or o)) _ refl (λ y. refl) (commit_call m ks text) x

pub write_exactly : (c : Call) (text out : List ℕ) (x : Refusal) → write_says (write_or (refusal c) text out).answer ≡ refusing x ↔ FirstOf (table c) x
write_exactly c text out x = exactly (λ o. write_says (write_or o text out).answer) _ refl (λ y. refl) c x

pub show_exactly : (w : Word) (out : List ℕ) (x : Refusal) → write_says (show w out).answer ≡ refusing x ↔ FirstOf (table (show_call w out)) x
unfolding show
show_exactly w out x = write_exactly (show_call w out) _ out x

pub spell_exactly : (m : ℕ) (text out : List ℕ) (x : Refusal) → write_says (spell m text out).answer ≡ refusing x ↔ FirstOf (table (spell_call m text out)) x
unfolding spell
spell_exactly m text out x = write_exactly (spell_call m text out) _ out x

-- What is refused changes nothing: the step gives the word back as it was, and a lent output is as it was; start and typing a list give a new Telex word; commit an empty part.
pub refused_step : (w : Word) (k : ℕ) (x : Refusal) → step_says (step w k).answer ≡ refusing x → (step w k).word ≡ w
unfolding step
refused_step w k x e = where_refused (λ o. step_says (step_or o w k).answer) _ refl (λ y. refl) (λ o. (step_or o w k).word ≡ w) (λ r. refl) (step_call w k) x e

pub write_refused : (c : Call) (text out : List ℕ) (x : Refusal) → write_says (write_or (refusal c) text out).answer ≡ refusing x → (write_or (refusal c) text out).output ≡ out
write_refused c text out x e = where_refused (λ o. write_says (write_or o text out).answer) _ refl (λ y. refl) (λ o. (write_or o text out).output ≡ out) (λ r. refl) c x e

pub refused_show : (w : Word) (out : List ℕ) (x : Refusal) → write_says (show w out).answer ≡ refusing x → (show w out).output ≡ out
unfolding show
refused_show w out x e = write_refused (show_call w out) _ out x e

pub refused_spell : (m : ℕ) (text out : List ℕ) (x : Refusal) → write_says (spell m text out).answer ≡ refusing x → (spell m text out).output ≡ out
unfolding spell
refused_spell m text out x e = write_refused (spell_call m text out) _ out x e

pub refused_start : (m : ℕ) (x : Refusal) → start_says (start m).answer ≡ refusing x → (start m).word ≡ new_word telex
refused_start m x e = where_refused (λ o. start_says (start_or o m).answer) _ refl (λ y. refl) (λ o. (start_or o m).word ≡ new_word telex) (λ r. refl) (start_call m) x e

pub refused_type : (m : ℕ) (ks : List ℕ) (x : Refusal) → type_says (type_all m ks).answer ≡ refusing x → (type_all m ks).word ≡ new_word telex
unfolding type_all
refused_type m ks x e = where_refused (λ o. type_says (type_or o m ks).answer) _ refl (λ y. refl) (λ o. (type_or o m ks).word ≡ new_word telex) (λ r. refl) (type_call m ks) x e

pub refused_commit : (m : ℕ) (ks text : List ℕ) (x : Refusal) → commit_says (commit_answer m ks text) ≡ refusing x → commit m ks text ≡ []
unfolding commit_answer commit
refused_commit m ks text x e = where_refused (λ o. commit_says (granted_or o)) _ refl (λ y. refl) (λ o. commit_or o m ks text ≡ []) (λ r. refl) (commit_call m ks text) x e
