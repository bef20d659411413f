-- At the end of the input nothing was read, so that the state is as it was.
use Rattle.std.proofs.Common.{◌≡◌, sym, ap, ℕ, List, min, take, length, arith}
use Rattle.stream.specs.Feeding.{feeding}
use Rattle.stream.specs.declared.Begun.{Begun}

pub at_end : (s : Begun) (block : List ℕ) (room n : ℕ) → n ≡ 0 → s ≡ (feeding s (take (min n (length block)) block) room).state
at_end s block room n e =
    let z : min n (length block) ≡ 0 = omega arith in
    ap (λ (k : ℕ). (feeding s (take k block) room).state) (sym z)
