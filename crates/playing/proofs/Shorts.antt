-- What a window shows is no more than there is.
use Rattle.std.proofs.Common.{◌≡◌, ℕ, min, Bool, true, false, ltb, List, length, take, sym, refl, ap, ◌∙◌, arith, take_all, ltb-false, ltb-true}

pub take_least : (n k : ℕ) (bs : List ℕ) → k ≡ min n (length bs) → take k bs ≡ take n bs
take_least n k bs e = by (ltb n (length bs)) refl
  where
    by : (b : Bool) → ltb n (length bs) ≡ b → take k bs ≡ take n bs
    by true t = let l = ltb-true n (length bs) t in let same : k ≡ n = omega arith in ap (λ (j : ℕ). take j bs) same
    by false t = let l = ltb-false n (length bs) t in take_all k bs (omega arith) ∙ sym (take_all n bs l)
