-- The answers by their tests: typing a list, and the three questions on a word.
use Rattle.std.specs.Prelude.{Result, Ok, Err}
use mathlib.Core.Path.{◌≡◌, refl, sym, ap}
use mathlib.Core.Bool.{Bool, true, false, not, ◌&&◌}
use mathlib.Core.List.{List, map}
use Prim.Native.Nat.{ℕ, ◌+◌, ◌≤◌, ◌<◌}
use native.Mathlib.Omega.{arith}
use lib.Dec.{T, eqb}
use lib.ListN.{length, take}
use borrow.Author.Tests.{lt-ltb, le-ltb}
use Rattle.rules.specs.Letters.{Letters}
use Rattle.rules.specs.TheWord.{most_keys, letter, new_word, holding}
use Rattle.rules.specs.KeyRoles.{is_key}
use Rattle.rules.specs.TakingApart.{verdict}
use Rattle.rules.specs.TonePlace.{tone_place}
use Rattle.rules.specs.Decision.{keeps}
use Rattle.rules.specs.Refusals.{all, is_mode, allowed_before, out_of_range, refusal}
use Rattle.rules.specs.WhatComesBack.{typed, type_all, place_answer, verdict_answer, decision_answer}
use Rattle.rules.specs.declared.Refusal.{Refusal}
use Rattle.rules.specs.declared.Word.{Word}
use Rattle.rules.proofs.Tests.{is_true}
use Rattle.word.specs.Refusing.{refused_typing, range_answer}
use Rattle.word.specs.Deciding.{decided_by}

-- typing a list
module _ (m : ℕ) (ks : List ℕ) where
  pub no_mode : not (is_mode m) ≡ true → type_all m ks ≡ refused_typing 1 0
  unfolding type_all refusal
  no_mode e = simp e

  pub too_many : not (is_mode m) ≡ false → most_keys < length ks → type_all m ks ≡ refused_typing 2 most_keys
  unfolding type_all refusal
  too_many e h = simp (e, lt-ltb most_keys (0 + length ks) (omega arith))

  pub not_a_key : not (is_mode m) ≡ false → length ks ≤ most_keys → all (is_key m) ks ≡ false → type_all m ks ≡ refused_typing 3 (allowed_before m ks)
  unfolding type_all refusal
  not_a_key e h n = simp (e, le-ltb most_keys (0 + length ks) (omega arith), n) (let z : 0 + allowed_before m ks ≡ allowed_before m ks = omega arith in ap (refused_typing 3) z)

  pub all_typed : not (is_mode m) ≡ false → length ks ≤ most_keys → T (all (is_key m) ks) → type_all m ks ≡ record { answer = Ok tt; word = holding (new_word m) (typed m ks) }
  unfolding type_all refusal
  all_typed e h t = let n : all (is_key m) ks ≡ true = is_true (all (is_key m) ks) t in simp (e, le-ltb most_keys (0 + length ks) (omega arith), n)

-- the letters of a word, of the numbers that hold them
abbrev pub part : List ℕ → ℕ → Letters
part l n = map letter (take n l)

-- a word that is refused is out of range, and any other is not
abbrev told : Bool → Result (Unit {0}) Refusal
told b = elim b [ true ↦ Err (record { number = 8; value = 0 }) | false ↦ Ok tt ]

abbrev why : Result (Unit {0}) Refusal → Refusal
why (Ok u) = record { number = 0; value = 0 }
why (Err r) = r

no_refusal : {r : Refusal} → told false ≡ Err r → ⊥
no_refusal e = let z : ◌≡◌ {A = ℕ} 0 1 = ap (λ (x : Result (Unit {0}) Refusal). elim x [ Ok u ↦ 0 | Err r ↦ 1 ]) e in omega arith

refused_told : (b : Bool) (r : Refusal) → told b ≡ Err r → (b ≡ true) × (r ≡ record { number = 8; value = 0 })
refused_told true r e = (refl, sym (ap why e))
refused_told false r e = absurd (no_refusal e)

granted_told : (b : Bool) (u : Unit {0}) → told b ≡ Ok u → b ≡ false
granted_told true u e = let z : ◌≡◌ {A = ℕ} 1 0 = ap (λ (x : Result (Unit {0}) Refusal). elim x [ Ok v ↦ 0 | Err r ↦ 1 ]) e in absurd (omega arith)
granted_told false u e = refl

module _ (w : Word) where
  pub without : (r : Refusal) → range_answer w ≡ Err r → (out_of_range w ≡ true) × (r ≡ record { number = 8; value = 0 })
  without r e = refused_told (out_of_range w) r e

  pub within : (u : Unit {0}) → range_answer w ≡ Ok u → out_of_range w ≡ false
  within u e = granted_told (out_of_range w) u e

  pub place_refused : out_of_range w ≡ true → place_answer w ≡ Err (record { number = 8; value = 0 })
  unfolding place_answer refusal
  place_refused e = simp e

  pub place_found : out_of_range w ≡ false → place_answer w ≡ Ok (tone_place (part w.letters w.count) w.tone)
  unfolding place_answer refusal
  place_found e = simp e refl

  pub verdict_refused : out_of_range w ≡ true → verdict_answer w ≡ Err (record { number = 8; value = 0 })
  unfolding verdict_answer refusal
  verdict_refused e = simp e

  pub verdict_judged : out_of_range w ≡ false → verdict_answer w ≡ Ok (verdict (part w.letters w.count) w.tone)
  unfolding verdict_answer refusal
  verdict_judged e = simp e refl

  pub decision_refused : out_of_range w ≡ true → decision_answer w ≡ Err (record { number = 8; value = 0 })
  unfolding decision_answer refusal
  decision_refused e = simp e

  pub decided : out_of_range w ≡ false → decision_answer w ≡ Ok (decided_by (eqb w.acted 0 && eqb w.undone 0) w.closed (part w.letters w.count) (verdict (part w.letters w.count) w.tone))
  unfolding decision_answer refusal keeps
  decided e = simp e refl
