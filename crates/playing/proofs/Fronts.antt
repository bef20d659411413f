-- The bytes that are not yet played stand at the front of the block, and what a read brought lies behind them.
use Rattle.std.proofs.Common.{◌≡◌, ℕ, ◌+◌, ◌≤◌, List, ◌++◌, length, take, drop, refl, ap, ◌∙◌, ap₂, arith, length-append, length-take, take_at}
use borrow.Rule.Slice.PartMut.{put_mid}
use Rattle.rules.specs.TheWord.{at_front}

-- they are there still when a read has brought more behind them
pub still_there : (m k : ℕ) (played old block more : List ℕ) → m ≡ length played → block ≡ at_front played old → take m (put_mid m k block more) ≡ played
still_there m k played old block more e f =
    let front : take m block ≡ played = ap₂ take e f ∙ take_at played (drop (length played) old) (length played) refl in
    ap₂ take e (ap (λ (bs : List ℕ). bs ++ (more ++ drop k (drop m block))) front) ∙ take_at played (more ++ drop k (drop m block)) (length played) refl

-- what was read lies within the block too
pub read_within : (m n k : ℕ) (played old block more : List ℕ) → m ≡ length played → block ≡ at_front played old → n ≤ length more → m + n ≤ length (put_mid m k block more)
read_within m n k played old block more e f h =
    omega (arith, length-append (take m block) (more ++ drop k (drop m block)), length-append more (drop k (drop m block)), length-take m block, ap length f, length-append played (drop (length played) old))
