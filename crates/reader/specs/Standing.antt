-- A reader's step from where it stands, and the place where it stands afterwards: behind the step, or, refused or at the end, where it stood.
use Rattle.std.specs.Prelude.{List, ℕ}
use Rattle.recording.specs.Recordings.{step_at}
use Rattle.recording.specs.declared.Progress.{Progress}
use Rattle.recording.specs.declared.Stepped.{Stepped}

abbrev pub step_from : List ℕ → ℕ → Progress → Stepped
step_from s at p = step_at s at p

abbrev pub place_after : List ℕ → ℕ → Progress → ℕ
place_after s at p = (step_at s at p).at
