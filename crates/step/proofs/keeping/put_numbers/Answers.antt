-- `step::keeping::put_numbers` meets its contract: seven stores.
use mathlib.Core.Path.{ap}
use Prim.Native.Nat.{ℕ}
use native.Mathlib.Omega.{arith}
use lib.ListN.{set, length-set}
use Rattle.layout.proofs.Answers.{mark_byte_law}
use Rattle.step.proofs.keeping.put_numbers.Goals as goal

pub bounds-lent-2 : goal.bounds-lent-2
bounds-lent-2 c = simp length-set (omega (arith, c.requires))

pub bounds-lent-3 : goal.bounds-lent-3
bounds-lent-3 c = simp length-set (omega (arith, c.requires))

pub bounds-lent-4 : goal.bounds-lent-4
bounds-lent-4 c = simp length-set (omega (arith, c.requires))

pub bounds-lent-5 : goal.bounds-lent-5
bounds-lent-5 c = simp length-set (omega (arith, c.requires))

pub bounds-lent-6 : goal.bounds-lent-6
bounds-lent-6 c = simp length-set (omega (arith, c.requires))

pub bounds-lent-7 : goal.bounds-lent-7
bounds-lent-7 c = simp length-set (omega (arith, c.requires))

pub returns : goal.returns
returns c =
    let a = c.args in
    let n = a.n in
    ap (λ (m : ℕ). set (set (set (set (set (set (set a.lent.now 1 n.count) 2 n.tone) 3 m) 4 n.typed) 5 n.acted) 6 n.undone) 7 n.appended) (mark_byte_law n.closed)
