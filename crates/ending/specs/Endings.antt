-- The exit status of a program that could not read or write on.
use Rattle.std.specs.Prelude.{ℕ}
use Rattle.std.specs.declared.io.ErrorKind.{ErrorKind}
use Rattle.std.specs.declared.io.ErrorKind.TheVariants.{BrokenPipe}

-- 141, a shell's status for a program that SIGPIPE ended, where nobody reads any more; else 1
abbrev pub status_of : ErrorKind → ℕ
status_of BrokenPipe = 141
status_of _ = 1
