-- A list of keys: where the first stands that is not allowed, and the word with one key more, in its bytes.
use mathlib.Core.Path.{◌≡◌, refl, sym, ap, subst, ◌∙◌}
use mathlib.Core.Bool.{Bool, true, false, not, cond, ◌&&◌}
use mathlib.Core.List.{List, [], ◌∷◌}
use Prim.Native.Nat.{ℕ, zero, suc, ◌+◌, ◌≤◌, ◌<◌}
use native.Mathlib.Numerals.{add-one}
use native.Mathlib.Omega.{arith}
use lib.Dec.{T}
use lib.ListN.{length, take, get_or}
use lib.Seq.{take_all, take-suc, length-take-le}
use lib.Ieee.Fits.{and_i, and_l, and_r}
use Rattle.std.specs.Option.{unwrap_or}
use Rattle.std.specs.Prelude.{Option, Some, None, nat_lt, position}
use Rattle.std.specs.List.{position_or_len}
use borrow.Author.Tests.{ltb-true, ltb-false}
use Rattle.rules.specs.TheWord.{most_keys, new_word, word_of, holding}
use Rattle.rules.specs.KeyRoles.{is_key}
use Rattle.rules.specs.Refusals.{all, is_mode, allowed_before, refusal}
use Rattle.rules.specs.WhatComesBack.{start, step, typed}
use Rattle.rules.specs.declared.Word.{Word}
use Rattle.rules.proofs.StaysInRange.{Whole}
use Rattle.rules.proofs.Typing.{Held, of_modes, new_held, kept_mode, kept_keys, type_append, list_held, steps}
use Rattle.layout.specs.Places.{as_bytes, as_record}
use Rattle.layout.proofs.InPlace.{long_word}
use Rattle.layout.proofs.RoundTrips.{written_read}
use Rattle.step.specs.InPlace.{step_at}
use Rattle.step.proofs.StepsAt.{leaves}

-- a part of allowed keys is allowed, and so is each; and where so many are allowed as there are, all are
all_take : (f : ℕ → Bool) (n : ℕ) (s : List ℕ) → T (all f s) → T (all f (take n s))
all_take f zero s t = tt
all_take f (suc n) [] t = tt
all_take f (suc n) (k ∷ s) t = and_i (f k) (all f (take n s)) (and_l (f k) (all f s) t) (all_take f n s (and_r (f k) (all f s) t))

all_at : (f : ℕ → Bool) (i : ℕ) (s : List ℕ) → i < length s → T (all f s) → T (f (get_or s i 0))
all_at f i [] h t = absurd (omega arith)
all_at f zero (k ∷ s) h t = and_l (f k) (all f s) t
all_at f (suc i) (k ∷ s) h t = all_at f i s (omega arith) (and_r (f k) (all f s) t)

pub all_allowed : (mode : ℕ) (s : List ℕ) → (allowed_before mode s ≡ length s → T (all (is_key mode) s)) × (allowed_before mode s < length s → all (is_key mode) s ≡ false) × (allowed_before mode s ≤ length s)
all_allowed mode [] = (λ e. tt, λ h. absurd (omega arith), omega arith)
all_allowed mode (k ∷ s) = go (is_key mode k) (all_allowed mode s)
  where
    go : (b : Bool) → (allowed_before mode s ≡ length s → T (all (is_key mode) s)) × (allowed_before mode s < length s → all (is_key mode) s ≡ false) × (allowed_before mode s ≤ length s) →
        (elim b [ true ↦ suc (allowed_before mode s) | false ↦ 0 ] ≡ suc (length s) → T (b && all (is_key mode) s)) ×
        (elim b [ true ↦ suc (allowed_before mode s) | false ↦ 0 ] < suc (length s) → b && all (is_key mode) s ≡ false) ×
        (elim b [ true ↦ suc (allowed_before mode s) | false ↦ 0 ] ≤ suc (length s))
    go true (p, q, r) = (λ e. p (omega arith), λ h. q (omega arith), omega arith)
    go false (p, q, r) = (λ e. absurd (omega arith), λ h. refl, omega arith)

-- the first that is not allowed stands behind so many as are allowed in front
before_wrong : (mode : ℕ) (s : List ℕ) → position_or_len (λ k. not (is_key mode k)) s ≡ allowed_before mode s
before_wrong mode [] = refl
before_wrong mode (k ∷ s) = go (is_key mode k) (before_wrong mode s)
  where
    go : (b : Bool) → {m n : ℕ} → m ≡ n → cond (not (not b)) (1 + m) 0 ≡ elim b [ true ↦ suc n | false ↦ 0 ]
    go true e = omega arith
    go false e = refl

module _ (mode : ℕ) (s : List ℕ) where
  abbrev place_or_long : ℕ
  place_or_long = position_or_len (λ k. not (is_key mode k)) s

  abbrev pub first_wrong : Option ℕ
  first_wrong = position (λ k. not (is_key mode k)) s

  pub wrong_at : (place : ℕ) → first_wrong ≡ Some place → (place ≡ allowed_before mode s) × (all (is_key mode) s ≡ false)
  wrong_at place e = by (nat_lt place_or_long (length s)) refl e
    where
      by : (b : Bool) → nat_lt place_or_long (length s) ≡ b → cond b (Some place_or_long) None ≡ Some place → (place ≡ allowed_before mode s) × (all (is_key mode) s ≡ false)
      by true l f =
          let h = ltb-true place_or_long (length s) l in
          let n = before_wrong mode s in
          let here : place_or_long ≡ place = cc in
          (omega arith, (all_allowed mode s).1 (omega arith))
      by false l f = cc

  pub none_wrong : first_wrong ≡ None → T (all (is_key mode) s)
  none_wrong e = by (nat_lt place_or_long (length s)) refl e
    where
      by : (b : Bool) → nat_lt place_or_long (length s) ≡ b → cond b (Some place_or_long) None ≡ None → T (all (is_key mode) s)
      by true l f = let z : ◌≡◌ {A = ℕ} 0 1 = cc in absurd (omega arith)
      by false l f =
          let h = ltb-false place_or_long (length s) l in
          let n = before_wrong mode s in
          let all = all_allowed mode s in
          all.0 (omega (arith, all.2))

module _ (m : ℕ) (s : List ℕ) (mode : T (is_mode m)) (few : length s ≤ most_keys) (allowed : T (all (is_key m) s)) where
  abbrev so_far : ℕ → Word
  so_far i = holding (new_word m) (typed m (take i s))

  -- the word with the first keys typed is held by its record
  held_so_far : (i : ℕ) → i ≤ length s → Held (new_word m) (typed m (take i s))
  held_so_far i h = let n = length-take-le i s h in list_held (new_word m) (word_of (new_word m)) (take i s) (new_held m mode) (omega (arith, n)) (all_take (is_key m) i s allowed)

  whole_so_far : (i : ℕ) → i ≤ length s → Whole (so_far i)
  whole_so_far i h = (held_so_far i h).whole

  pub long_so_far : (i : ℕ) → i ≤ length s → {bs : List ℕ} → bs ≡ as_bytes (so_far i) → 169 ≡ length bs
  long_so_far i h p = sym (ap (λ (l : List ℕ). length l) p ∙ long_word (so_far i) (whole_so_far i h))

  one_more : (i : ℕ) → i < length s → (step (so_far i) (get_or s i 0)).word ≡ so_far (i + 1)
  one_more i h =
      let z = word_of (new_word m) in
      let n = length-take-le i s (omega arith) in
      steps (new_word m) (typed m (take i s)) (get_or s i 0) (held_so_far i (omega arith)) (omega (arith, kept_keys z (take i s), n))
      (subst (λ (x : ℕ). T (is_key x (get_or s i 0))) (sym (kept_mode z (take i s))) (all_at (is_key m) i s h allowed)) ∙
      ap (holding (new_word m)) (sym (ap (typed m) (ap (λ (j : ℕ). take j s) (add-one i) ∙ take-suc s i 0 h) ∙ type_append z (take i s) (get_or s i 0 ∷ [])))

  -- the same in its bytes
  pub one_more_in : (i : ℕ) → i < length s → {old new : List ℕ} → old ≡ as_bytes (so_far i) → new ≡ (step_at old (get_or s i 0)).bytes → new ≡ as_bytes (so_far (i + 1))
  one_more_in i h p q =
      q ∙ ap (λ (bs : List ℕ). (step_at bs (get_or s i 0)).bytes) p ∙ leaves (so_far i) (whole_so_far i (omega arith)) (get_or s i 0) ∙ ap as_bytes (one_more i h)

  pub all_typed : (i : ℕ) → length s ≤ i → i ≤ length s → {bs : List ℕ} {r : Option Word} (w : Word) → bs ≡ as_bytes (so_far i) → r ≡ as_record bs → unwrap_or r w ≡ holding (new_word m) (typed m s)
  all_typed i h k w p e =
      ap (λ (x : Option Word). unwrap_or x w) (e ∙ ap as_record p ∙ written_read (so_far i) (whole_so_far i k)) ∙ ap (λ (ks : List ℕ). holding (new_word m) (typed m ks)) (take_all i s h)

-- a word is started in its mode, and holds no key yet
pub started : (m : ℕ) → T (is_mode m) → (start m).word ≡ holding (new_word m) (typed m [])
unfolding refusal
started = of_modes (λ m. (start m).word ≡ holding (new_word m) (typed m [])) refl refl
