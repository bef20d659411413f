-- A call and what came back of it: the answer where no row of the refusal table holds, and a refusal exactly where it is that of the first row that holds.
use Rattle.std.specs.Prelude.{◌≡◌}
use Rattle.rules.specs.Refusals.{Call, table, FirstOf, NoneHolds}
use Rattle.rules.specs.declared.Refusal.{Refusal}

pub record Exactly {R : Type 0} (c : Call) (came_back answer : R) (refused : Refusal → R) : Type 0 where
  pub answers : NoneHolds (table c) → came_back ≡ answer
  pub refuses : (x : Refusal) → FirstOf (table c) x → came_back ≡ refused x
  pub only_then : (x : Refusal) → came_back ≡ refused x → FirstOf (table c) x
