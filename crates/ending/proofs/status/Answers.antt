-- `ending::status` meets its contract: each kind of error but one has the status of a failure.
use Rattle.std.proofs.Common.{◌≡◌, refl, sym, ap, ◌∙◌}
use Rattle.std.specs.declared.io.ErrorKind.{ErrorKind}
use Rattle.std.specs.declared.io.ErrorKind.TheVariants.{BrokenPipe}
use Rattle.ending.specs.Endings.{status_of}
use Rattle.ending.proofs.status.Goals as goal

failing : (k : ErrorKind) → (k ≡ BrokenPipe → ⊥) → 1 ≡ status_of k
failing BrokenPipe n = absurd (n refl)
failing _ n = refl

pub returns-in-BrokenPipe : goal.returns-in-BrokenPipe
returns-in-BrokenPipe c = c.from.ensures ∙ ap status_of (sym c.in-BrokenPipe.is ∙ c.kind.ensures)

pub returns-in_default : goal.returns-in_default
returns-in_default c = failing c.kind.result c.in_default.not-BrokenPipe ∙ ap status_of c.kind.ensures
