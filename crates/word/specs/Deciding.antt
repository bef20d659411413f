-- The decision by its four reasons, of letters beside what is known of the word.
use Rattle.std.specs.Prelude.{Bool, ◌||◌, ℕ, eqb}
use Rattle.rules.specs.Letters.{Letters}
use Rattle.rules.specs.Decision.{starts_with_đ, keep_if}
use Rattle.rules.specs.declared.Decision.{Decision}

abbrev pub decided_by : (untouched closed : Bool) → Letters → (verdict : ℕ) → Decision
decided_by untouched closed w verdict = keep_if (untouched || (closed || (starts_with_đ w || eqb verdict 0)))
