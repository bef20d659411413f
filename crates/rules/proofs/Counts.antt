-- The counts of a typed word: they add up to its keys, and each is the number of keys that the step rule classes so.
use mathlib.Core.Path.{◌≡◌, refl, ◌∙◌}
use mathlib.Core.Bool.{Bool, true, false}
use mathlib.Core.List.{List, [], ◌∷◌}
use Prim.Native.Nat.{ℕ, ◌+◌}
use native.Mathlib.Omega.{arith}
use lib.ListN.{length}
use Rattle.rules.specs.TheWord.{Typed, outcome_of, is_acted, is_undone, is_appended, one_more}
use Rattle.rules.specs.KeyRoles.{key_does, type, type_list}
use Rattle.rules.specs.WhatComesBack.{typed}
use Rattle.rules.specs.declared.Outcome.{Outcome}
use Rattle.rules.proofs.StaysInRange.{sum_more}

-- how many of these keys, typed one after the other, the step rule classes so
abbrev pub classed : (Outcome → Bool) → Typed → List ℕ → ℕ
classed f z [] = 0
classed f z (k ∷ ks) = one_more (f (outcome_of (key_does z k))) (classed f (type z k) ks)

more_later : (b : Bool) (n m : ℕ) → one_more b n + m ≡ n + one_more b m
more_later true n m = omega arith
more_later false n m = refl

pub acted_so : (z : Typed) (ks : List ℕ) → (type_list z ks).acted ≡ z.acted + classed is_acted z ks
acted_so z [] = omega arith
acted_so z (k ∷ ks) = acted_so (type z k) ks ∙ more_later (is_acted (outcome_of (key_does z k))) z.acted (classed is_acted (type z k) ks)

pub undone_so : (z : Typed) (ks : List ℕ) → (type_list z ks).undone ≡ z.undone + classed is_undone z ks
undone_so z [] = omega arith
undone_so z (k ∷ ks) = undone_so (type z k) ks ∙ more_later (is_undone (outcome_of (key_does z k))) z.undone (classed is_undone (type z k) ks)

pub appended_so : (z : Typed) (ks : List ℕ) → (type_list z ks).appended ≡ z.appended + classed is_appended z ks
appended_so z [] = omega arith
appended_so z (k ∷ ks) = appended_so (type z k) ks ∙ more_later (is_appended (outcome_of (key_does z k))) z.appended (classed is_appended (type z k) ks)

sum_so : (z : Typed) (ks : List ℕ) → (type_list z ks).acted + (type_list z ks).undone + (type_list z ks).appended ≡ z.acted + z.undone + z.appended + length ks
sum_so z [] = omega arith
sum_so z (k ∷ ks) =
    let e = sum_more (outcome_of (key_does z k)) z.acted z.undone z.appended in
    let f = sum_so (type z k) ks in
    omega arith

pub counts_add_up : (m : ℕ) (ks : List ℕ) → (typed m ks).acted + (typed m ks).undone + (typed m ks).appended ≡ length ks
counts_add_up m ks = let e = sum_so (typed m []) ks in omega arith
