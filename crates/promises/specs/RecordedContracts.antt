-- What the contract of each entry for recorded drills allows: of these arguments this result, and of a lent output or a lent reader how it is before and after.
use Rattle.std.specs.Prelude.{◌≡◌, List, ℕ, Option, Result}
use contract.Lifetimes.{Lfts}
use denote.Triple.Entry.{Args}
use denote.Triple.Clauses.{AtExit}
use Rattle.groups.specs.declared.Groups.{Groups}
use Rattle.recording.specs.declared.Progress.{Progress}
use Rattle.recording.specs.declared.Stepped.{Stepped}
use Rattle.reader.specs.declared.Reader.{Reader}
use Rattle.replay.specs.declared.ReplayAnswer.{ReplayAnswer}
use Rattle.groups.specs.contracts.number_at as number_at
use Rattle.groups.proofs.number_at.Reads as number-at-reads
use Rattle.groups.specs.contracts.written as written
use Rattle.groups.proofs.written.Reads as written-reads
use Rattle.recording.specs.contracts.begin as begin
use Rattle.recording.proofs.begin.Reads as begin-reads
use Rattle.recording.specs.contracts.step_at as step-at
use Rattle.recording.proofs.step_at.Reads as step-at-reads
use Rattle.recording.specs.contracts.write as write
use Rattle.recording.proofs.write.Reads as write-reads
use Rattle.reader.specs.contracts.Reader.next_in as next-in
use Rattle.reader.proofs.One.{NextInPost}
use Rattle.replay.specs.contracts.replay as replay
use Rattle.replay.proofs.replay.Reads as replay-reads
use Rattle.rules.specs.declared.Refusal.{Refusal}
use Rattle.groups.specs.declared.Number.{Number}
use Rattle.recording.specs.declared.Begun.{Begun}

-- a number read: bytes, and a place in them
pub record NumberAllows (bytes : List ℕ) (at : ℕ) (r : Option Number) : Type 0 where
  pub lifetimes : Lfts 1
  pub args : Args number_at.signature lifetimes
  pub exit : AtExit number_at.ended lifetimes
  pub of_bytes : args.0.now ≡ bytes
  pub of_place : args.1.0 ≡ at
  pub post : number-at-reads.Post lifetimes args r exit

-- a number written in its groups
pub record WrittenAllows (n : ℕ) (g : Groups) : Type 0 where
  pub lifetimes : Lfts 0
  pub exit : AtExit written.ended lifetimes
  pub post : written-reads.Post lifetimes (n, tt) g exit

-- the mode in front of a recording
pub record BeginAllows (s : List ℕ) (r : Result Begun Refusal) : Type 0 where
  pub lifetimes : Lfts 1
  pub args : Args begin.signature lifetimes
  pub exit : AtExit begin.ended lifetimes
  pub of_recording : args.0.now ≡ s
  pub post : begin-reads.Post lifetimes args r exit

-- one step: a recording, a place in it, and how far the drill has come
pub record PressAllows (s : List ℕ) (at : ℕ) (p : Progress) (t : Stepped) : Type 0 where
  pub lifetimes : Lfts 1
  pub args : Args step-at.signature lifetimes
  pub exit : AtExit step-at.ended lifetimes
  pub of_recording : args.0.now ≡ s
  pub of_place : args.1.0 ≡ at
  pub of_progress : args.1.1.0 ≡ p
  pub post : step-at-reads.Post lifetimes args t exit

-- the writer: a mode, presses as numbers, and the output before and after
pub record RecordAllows (m : ℕ) (presses before : List ℕ) (r : Result ℕ Refusal) (after : List ℕ) : Type 0 where
  pub lifetimes : Lfts 2
  pub args : Args write.signature lifetimes
  pub exit : AtExit write.ended lifetimes
  pub of_mode : args.0 ≡ m
  pub of_presses : args.1.0.now ≡ presses
  pub at_entry : args.1.1.0.now ≡ before
  pub at_exit : exit.1.1.0.now ≡ after
  pub post : write-reads.Post lifetimes args r exit

-- a step of a reader: the reader before and after. `NextInPost` is the text of its contract.
pub record NextAllows (before : Reader) (p : Progress) (t : Stepped) (after : Reader) : Type 0 where
  pub lifetimes : Lfts 2
  pub args : Args next-in.signature lifetimes
  pub exit : AtExit next-in.ended lifetimes
  pub at_entry : args.0.now ≡ before
  pub of_progress : args.1.0 ≡ p
  pub at_exit : exit.0.now ≡ after
  pub post : NextInPost lifetimes args t exit

-- a replay: a recording, and the output before and after
pub record ReplayAllows (s before : List ℕ) (r : ReplayAnswer) (after : List ℕ) : Type 0 where
  pub lifetimes : Lfts 2
  pub args : Args replay.signature lifetimes
  pub exit : AtExit replay.ended lifetimes
  pub of_recording : args.0.now ≡ s
  pub at_entry : args.1.0.now ≡ before
  pub at_exit : exit.1.0.now ≡ after
  pub post : replay-reads.Post lifetimes args r exit
