-- One possible result: any two exit statuses that the contract allows for the same error are equal.
use mathlib.Core.Path.{◌≡◌, sym, ◌∙◌}
use contract.Lifetimes.{Lfts}
use denote.Triple.Entry.{Args, Res}
use denote.Triple.Clauses.{AtExit}
use Rattle.std.specs.Process.{exit_status}
use Rattle.std.specs.declared.process.ExitCode.{ExitCode}
use Rattle.ending.specs.contracts.status as status
use Rattle.ending.proofs.status.Reads as status-reads

-- two exit codes of one number are one
same : (x y : ExitCode) → exit_status x ≡ exit_status y → x ≡ y
same x y e = λ i. record { status = e i }

pub status_one : (κs : Lfts 0) (a : Args status.signature κs) (r r' : Res status.signature κs) (e e' : AtExit status.ended κs) → status-reads.Post κs a r e → status-reads.Post κs a r' e' → r ≡ r'
status_one κs a r r' e e' p p' = same r r' (p ∙ sym p')
