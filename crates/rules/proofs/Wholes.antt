-- The parts of a word, put together again, are the word.
use mathlib.Core.Path.{◌≡◌, refl, sym, ap, ◌∙◌}
use mathlib.Core.Bool.{Bool, true, false}
use mathlib.Core.List.{[], ◌∷◌, ◌++◌, append_assoc}
use Rattle.rules.specs.Letters.{Letters}
use Rattle.rules.specs.TakingApart.{is_kind, front, front_if, past, past_if, before, run, joins, initial_of, nucleus_of, initial, nucleus, final, leftovers}

-- a run and what stands past it make the whole
pub split : (v : Bool) (w : Letters) → front v w ++ past v w ≡ w
split v [] = refl
split v (x ∷ xs) = go (is_kind v x.base) (split v xs)
  where
    go : (b : Bool) → front v xs ++ past v xs ≡ xs → front_if b x (front v xs) ++ past_if b x xs (past v xs) ≡ x ∷ xs
    go true e = ap (λ (l : Letters). x ∷ l) e
    go false e = refl

rejoin : (b : Bool) (w v : Letters) → initial_of b w v ++ nucleus_of b v ≡ w ++ v
rejoin false w v = refl
rejoin true w [] = refl
rejoin true w (x ∷ xs) = append_assoc w (x ∷ []) xs

module _ (w : Letters) where
  pub halves : before w ++ (run w ++ (final w ++ leftovers w)) ≡ w
  unfolding final leftovers
  halves =
      ap (λ (l : Letters). before w ++ (run w ++ l)) (split false (past true (past false w))) ∙ ap (λ (l : Letters). before w ++ l) (split true (past false w)) ∙ split false w

  pub whole : initial w ++ (nucleus w ++ (final w ++ leftovers w)) ≡ w
  unfolding initial nucleus
  whole =
      sym (append_assoc (initial w) (nucleus w) (final w ++ leftovers w)) ∙ ap (λ (l : Letters). l ++ (final w ++ leftovers w)) (rejoin (joins (before w) (run w)) (before w) (run w)) ∙ append_assoc (before w) (run w) (final w ++ leftovers w) ∙ halves
