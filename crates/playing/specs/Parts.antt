-- A part of a recording, as it lies in a block: from a place of the recording on, with some of it behind the part or none.
use Rattle.std.specs.Prelude.{◌≡◌, ℕ, ◌+◌, ◌-◌, ◌%◌, ◌^◌, ◌≤◌, Bool, not, ◌&&◌, List, [], ◌++◌, length, take, drop, nat_lt, Option, Some, None, Result, Ok, Err}
use Rattle.recording.specs.Recordings.{refused_for}
use Rattle.recording.specs.declared.Stepped.{Stepped}
use Rattle.playing.specs.declared.blocks.Window.{Window}
use Rattle.rules.specs.declared.Refusal.{Refusal}
use Rattle.recording.specs.declared.KeyPress.{KeyPress}

-- What a window shows of the block: as many bytes as it holds.
abbrev pub shown_in : Window → List ℕ → List ℕ
shown_in w block = take w.end block

-- Fewer bytes from its place on than a step can have, and more of them may come.
abbrev pub short : Window → Bool
short w = not w.last && nat_lt w.end (w.at + 10)

-- The recording s has the part v from the place start on, and behind it the rest.
pub record IsPart (s : List ℕ) (start : ℕ) (v rest : List ℕ) : Type 0 where
  pub there : drop start s ≡ v ++ rest

-- A step is two numbers of at most five bytes. At a place of the part it depends on no more than the part where that has ten bytes
-- from there on, or where nothing of the recording is behind it.
pub data Enough (at : ℕ) (v rest : List ℕ) : Type 0 where
  ten_bytes : at + 10 ≤ length v → Enough at v rest
  no_more : rest ≡ [] → Enough at v rest

-- A step's places, counted from the start of the recording and not of the part.
abbrev pub press_later : ℕ → Result (Option KeyPress) Refusal → Result (Option KeyPress) Refusal
press_later start (Ok (Some x)) = Ok (Some x)
press_later start (Ok None) = Ok None
press_later start (Err r) = Err (refused_for r.number (start + r.value))

abbrev pub later : ℕ → Stepped → Stepped
later start t = record { press = press_later start t.press; at = start + t.at; progress = t.progress }

-- After a read: the block starts where the next step was, and the bytes that are not yet played stand at its front.
pub data ReadOn (w : Window) (old new : List ℕ) : Option Window → Type 0 where
  cannot : ReadOn w old new None
  reads : (v : Window) → v.start ≡ (w.start + w.at) % 2 ^ 64 → v.at ≡ 0 → w.end - w.at ≤ v.end → v.end ≤ length new → take (w.end - w.at) new ≡ take (w.end - w.at) (drop w.at old)
      → ReadOn w old new (Some v)
