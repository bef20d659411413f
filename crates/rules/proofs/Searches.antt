-- The first or the last place of a list where a test passes, as `position` and `rposition` find it.
use Rattle.std.proofs.Common.{◌≡◌, sym, length, get_or, ℕ, ◌<◌, Bool, true, false, List, Option, Some, None, MatchOption, arith}
use Rattle.std.specs.List.{position_or_len}
use Rattle.std.specs.Option.{unwrap_or}
use Rattle.std.proofs.lemmas.List.Sums.{position_or_len_is}

module _ (test : ℕ → Bool) (xs : List ℕ) where
  abbrev pub IsFirstPlace : Option ℕ → Type 0
  IsFirstPlace r = MatchOption r ((k : ℕ) → k < length xs → test (get_or xs k 0) ≡ false) (λ i. (i < length xs) × (test (get_or xs i 0) ≡ true) × ((k : ℕ) → k < i → test (get_or xs k 0) ≡ false))

  abbrev pub IsLastPlace : Option ℕ → Type 0
  IsLastPlace r = MatchOption r ((k : ℕ) → k < length xs → test (get_or xs k 0) ≡ false) (λ i. (i < length xs) × (test (get_or xs i 0) ≡ true) × ((k : ℕ) → i < k → k < length xs → test (get_or xs k 0) ≡ false))

  pub first_or_length : (r : Option ℕ) → IsFirstPlace r → unwrap_or r (length xs) ≡ position_or_len test xs
  first_or_length None h = sym (position_or_len_is test xs (length xs) 0 (omega arith) h (λ l. absurd (omega arith)))
  first_or_length (Some i) h = sym (position_or_len_is test xs i 0 (omega (arith, h.0)) h.2 (λ _. h.1))
