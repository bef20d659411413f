-- What one pass over a recording finds, from a place on, with the words so far and the keys of the word that has begun.
use Rattle.std.specs.Prelude.{◌≡◌, Bool, true, false, List, [], ◌∷◌, ◌++◌, ℕ, ◌+◌, ◌*◌, ◌^◌, ◌≤◌, ◌<◌, T, leb, length, take, drop, set, Result, Ok, Err}
use Rattle.rules.specs.TheWord.{at_front}
use Rattle.rules.specs.WhatComesBack.{typed}
use Rattle.rules.specs.declared.Refusal.{Refusal}
use Rattle.recording.specs.Recordings.{Reading, broken, presses, read_from}
use Rattle.recording.specs.declared.Begun.{Begun}
use Rattle.replay.specs.Replays.{committed_line, Tally, if_kept, if_restored, nothing, together, of_words, words_from, milliseconds, summary, done_of}
use Rattle.replay.specs.declared.Found.{Found}
use Rattle.replay.specs.declared.ReplayAnswer.{ReplayAnswer}
use Rattle.replay.specs.declared.WordDone.{WordDone}

-- the numbers of a tally: of its text the length
abbrev pub total_of : Tally → Found
total_of t = record { written = length t.text; summary = summary t 0 }

pub data Outcome : Type 0 where
  stopped : Refusal → Outcome
  finished : Tally → (milliseconds : ℕ) → Outcome

abbrev pub outcome : (mode : ℕ) → Tally → (keys : List ℕ) → (milliseconds : ℕ) → Reading → Outcome
outcome mode t ks ms (broken r) = stopped r
outcome mode t ks ms (presses xs) = finished (together t (of_words mode (words_from ks xs))) (ms + milliseconds xs)

abbrev pub throughout : List ℕ → Begun → Outcome
throughout s b = outcome b.progress.mode nothing [] b.progress.milliseconds (read_from (length s) s b.at b.progress)

abbrev pub found_of : Found → ℕ → Found
found_of t ms =
    let u = t.summary in
    record {
      written = t.written;
      summary = record { words = u.words; kept = u.kept; restored = u.restored; acted = u.acted; undone = u.undone; appended = u.appended; milliseconds = ms };
    }

abbrev pub passage_of : Outcome → Result Found Refusal
passage_of (stopped r) = Err r
passage_of (finished t ms) = Ok (found_of (total_of t) ms)

-- what a replay answers, by what it found
abbrev pub told : Result Found Refusal → ReplayAnswer
told (Ok f) = record { answer = Ok f.written; summary = f.summary }
told (Err r) = record { answer = Err r; summary = summary nothing 0 }

-- the lines stand at the front of the output, where there was room for all of them
abbrev pub LinesPut : Outcome → (before after : List ℕ) → Type 0
LinesPut (stopped r) before after = T true
LinesPut (finished t ms) before after = length t.text ≤ length before → after ≡ at_front t.text before

-- one word more
abbrev pub with_done : Found → WordDone → Found
with_done t w =
    let u = t.summary in
    record {
      written = t.written + w.bytes;
      summary =
          record {
            words = u.words + 1;
            kept = u.kept + if_kept w.decision;
            restored = u.restored + if_restored w.decision;
            acted = u.acted + w.acted;
            undone = u.undone + w.undone;
            appended = u.appended + w.appended;
            milliseconds = u.milliseconds;
          };
    }

-- no sum of it wraps, with so many bytes and so many keys that acted, undid and were appended; and with a word of so many keys
pub record Fits (t : Found) (b a u l : ℕ) : Type 0 where
  pub written : t.written + b < 2 ^ 64
  pub words : t.summary.words + 1 < 2 ^ 64
  pub kept : t.summary.kept + 1 < 2 ^ 64
  pub restored : t.summary.restored + 1 < 2 ^ 64
  pub acted : t.summary.acted + a < 2 ^ 64
  pub undone : t.summary.undone + u < 2 ^ 64
  pub appended : t.summary.appended + l < 2 ^ 64

abbrev pub FitsKeys : Found → ℕ → Type 0
FitsKeys t n = Fits t (3 * n + 1) n n n

-- a line at a place of an output, where there is room for it
abbrev pub line_if : Bool → ℕ → List ℕ → List ℕ → List ℕ
line_if true at line out = take at out ++ at_front line (drop at out)
line_if false at line out = out

unfoldable pub line_at : ℕ → List ℕ → List ℕ → List ℕ
line_at at line out = line_if (leb (at + length line) (length out)) at line out

-- a word that is committed or not: the total, the output, and the keys, among which a key stands that commits nothing
abbrev pub some_keys : List ℕ → Bool
some_keys [] = false
some_keys (k ∷ ks) = true

abbrev pub total_if : Bool → ℕ → List ℕ → Found → Found
total_if true mode ks t = with_done t (done_of (typed mode ks))
total_if false mode ks t = t

abbrev pub output_if : Bool → ℕ → List ℕ → Found → List ℕ → List ℕ
output_if true mode ks t out = line_at t.written (committed_line (typed mode ks)) out
output_if false mode ks t out = out

abbrev pub keys_unless : Bool → List ℕ → ℕ → ℕ → List ℕ
keys_unless true keys n key = keys
keys_unless false keys n key = set keys n key
