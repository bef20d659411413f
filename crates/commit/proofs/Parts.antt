-- What each ruling hands back, and what it answers.
use Rattle.std.specs.Prelude.{Option, Some, None, Result, Ok, Err, ⊤}
use mathlib.Core.Path.{◌≡◌, refl, sym, ap, subst, ◌∙◌}
use mathlib.Core.List.{List, []}
use Prim.Native.Nat.{ℕ}
use native.Mathlib.Omega.{arith}
use lib.ListN.{length, take}
use lib.Seq.{take_all}
use Rattle.rules.specs.Decision.{decision, handed_back}
use Rattle.rules.specs.Refusals.{refusal}
use Rattle.rules.specs.WhatComesBack.{typed, commit_call, commit_or, commit, granted_or, commit_answer}
use Rattle.rules.specs.declared.Refusal.{Refusal}
use Rattle.rules.specs.declared.Decision.{Decision}
use Rattle.rules.specs.declared.Decision.TheVariants.{Keep as Kept, Restore as Restored}
use Rattle.commit.specs.declared.Ruling.{Ruling}
use Rattle.commit.specs.declared.Ruling.TheVariants.{Keep, Restore}
use Rattle.commit.specs.Rulings.{decided, ruling_or, ruling_of}

-- a ruling, the part handed back and the answer of its question
data Goes (ks text : List ℕ) : Result Ruling Refusal → List ℕ → Result ⊤ Refusal → Type 0 where
  keeps : Goes ks text (Ok (Keep (length text))) text (Ok tt)
  restores : Goes ks text (Ok Restore) ks (Ok tt)
  refuses : (x : Refusal) → Goes ks text (Err x) [] (Err x)

module _ (m : ℕ) (ks text : List ℕ) where
  goes : Goes ks text (ruling_of m ks text) (commit m ks text) (commit_answer m ks text)
  unfolding ruling_of commit commit_answer
  goes = go (refusal (commit_call m ks text)) (decision (typed m ks))
    where
      by_decision : (d : Decision) → Goes ks text (decided d text) (handed_back d text ks) (Ok tt)
      by_decision Kept = keeps
      by_decision Restored = restores

      go : (o : Option Refusal) (d : Decision) → Goes ks text (ruling_or o m ks text) (commit_or o m ks text) (granted_or o)
      go None d = by_decision (decision (typed m ks))
      go (Some x) d = refuses x

  of_kept : {n : ℕ} {part : List ℕ} {a : Result ⊤ Refusal} → Goes ks text (Ok (Keep n)) part a → (n ≡ length text) × (part ≡ text) × (a ≡ (Ok tt))
  of_kept keeps = (refl, refl, refl)

  pub kept_part : (n : ℕ) → ruling_of m ks text ≡ Ok (Keep n) → (n ≡ length (take n text)) × (take n text ≡ commit m ks text) × ((Ok tt) ≡ commit_answer m ks text)
  kept_part n e =
      let (l, p, a) = of_kept (subst (λ (r : Result Ruling Refusal). Goes ks text r (commit m ks text) (commit_answer m ks text)) e goes) in
      let whole = take_all n text (omega arith) in
      (l ∙ ap (λ (bs : List ℕ). length bs) (sym whole), whole ∙ sym p, sym a)

  of_restored : {part : List ℕ} {a : Result ⊤ Refusal} → Goes ks text (Ok Restore) part a → (part ≡ ks) × (a ≡ (Ok tt))
  of_restored restores = (refl, refl)

  pub restored_part : ruling_of m ks text ≡ (Ok Restore) → (ks ≡ commit m ks text) × ((Ok tt) ≡ commit_answer m ks text)
  restored_part e =
      let (p, a) = of_restored (subst (λ (r : Result Ruling Refusal). Goes ks text r (commit m ks text) (commit_answer m ks text)) e goes) in
      (sym p, sym a)

  of_refused : {x : Refusal} {part : List ℕ} {a : Result ⊤ Refusal} → Goes ks text (Err x) part a → (part ≡ []) × (a ≡ Err x)
  of_refused (refuses x) = (refl, refl)

  pub refused_part : (x : Refusal) → ruling_of m ks text ≡ Err x → ([] ≡ commit m ks text) × (Err x ≡ commit_answer m ks text)
  refused_part x e =
      let (p, a) = of_refused (subst (λ (r : Result Ruling Refusal). Goes ks text r (commit m ks text) (commit_answer m ks text)) e goes) in
      (sym p, sym a)

  pub granted_part : (r : Ruling) → ruling_of m ks text ≡ Ok r → Ok tt ≡ commit_answer m ks text
  granted_part (Keep n) e = (kept_part n e).2
  granted_part Restore e = (restored_part e).1
