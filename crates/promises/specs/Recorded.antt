-- Recorded drills (request W-204), of whatever the contracts allow: numbers and drills come back as they were written, what is read is written as the same bytes, and a replay types the words between the spaces.
use Rattle.std.specs.Prelude.{◌≡◌, true, false, List, [], ◌∷◌, ◌++◌, map, ◌⊎◌, ℕ, suc, ◌+◌, ◌≤◌, ◌<◌, length, take, drop, Option, Some, None, Result, Ok, Err}
use Rattle.rules.specs.TheWord.{most_bytes, at_front}
use Rattle.rules.specs.AnswersInNumbers.{answered, write_says}
use Rattle.rules.specs.Drill.{newline}
use Rattle.rules.specs.declared.Refusal.{Refusal}
use Rattle.rules.specs.declared.TypeAll.{TypeAll}
use Rattle.groups.specs.Numbers.{limit, AllBytes}
use Rattle.groups.specs.declared.Number.{Number}
use Rattle.groups.specs.declared.Groups.{Groups}
use Rattle.recording.specs.Recordings.{is_space}
use Rattle.recording.specs.Drills.{press_in, number_of}
use Rattle.recording.specs.declared.Progress.{Progress}
use Rattle.recording.specs.declared.KeyPress.{KeyPress}
use Rattle.recording.specs.declared.Stepped.{Stepped}
use Rattle.recording.specs.declared.Begun.{Begun}
use Rattle.reader.specs.declared.Reader.{Reader}
use Rattle.replay.specs.Replays.{words_from, milliseconds, nothing, summary}
use Rattle.replay.specs.declared.Summary.{Summary}
use Rattle.replay.specs.declared.ReplayAnswer.{ReplayAnswer}
use Rattle.promises.specs.ContractsAllow.{TypeAllows, ShowAllows, CommitAllows}
use Rattle.promises.specs.RecordedContracts.{NumberAllows, WrittenAllows, BeginAllows, PressAllows, RecordAllows, NextAllows, ReplayAllows}

-- A number below 2 to the 32, written, is read wherever its groups stand, whatever is behind them; and in so many groups.
abbrev pub NumbersBack : Type 0
NumbersBack =
    (n : ℕ) (g : Groups) (bs rest : List ℕ) (at : ℕ) (a : Option Number) → n < limit → WrittenAllows n g → drop at bs ≡ take g.count g.bytes ++ rest → NumberAllows bs at a
    → a ≡ Some (record { value = n; groups = g.count })

-- A number that is read from bytes stands there as it is written: no number has two forms.
abbrev pub BytesBack : Type 0
BytesBack =
    (bs : List ℕ) (at : ℕ) (n : Number) (g : Groups) → AllBytes bs → NumberAllows bs at (Some n) → WrittenAllows n.value g → take n.groups (drop at bs) ≡ take g.count g.bytes

-- A step of the reader is the step of its recording from where it stands; it then stands where that step ends, over the same recording.
abbrev pub ReaderSteps : Type 0
ReaderSteps =
    (before after : Reader) (p : Progress) (t : Stepped) → NextAllows before p t after
    → PressAllows before.recording.now before.at p t × (after ≡ record { recording = before.recording; at = t.at })

-- At the end, and after a refused step, the reader stands where it stood, and the drill has come no further.
abbrev pub NoPress : Result (Option KeyPress) Refusal → Type 0
NoPress x = (x ≡ Ok None) ⊎ ((r : Refusal) × (x ≡ Err r))

abbrev pub StandsStill : Type 0
StandsStill = (before after : Reader) (p : Progress) (t : Stepped) → NextAllows before p t after → NoPress t.press → (after ≡ before) × (t.progress ≡ p)

-- From a place in a recording, step by step to its end: these presses.
pub data Walk (s : List ℕ) : ℕ → Progress → List KeyPress → Type 0 where
  ended : {at : ℕ} {p : Progress} {t : Stepped} → PressAllows s at p t → t.press ≡ (Ok None) → Walk s at p []
  pressed : {at : ℕ} {p : Progress} {t : Stepped} {x : KeyPress} {xs : List KeyPress} → PressAllows s at p t → t.press ≡ Ok (Some x) → Walk s t.at t.progress xs → Walk s at p (x ∷ xs)

-- From a place in a recording, step by step to a refusal.
pub data Stops (s : List ℕ) : ℕ → Progress → Refusal → Type 0 where
  refused : {at : ℕ} {p : Progress} {t : Stepped} {r : Refusal} → PressAllows s at p t → t.press ≡ Err r → Stops s at p r
  after_press : {at : ℕ} {p : Progress} {t : Stepped} {x : KeyPress} {r : Refusal} → PressAllows s at p t → t.press ≡ Ok (Some x) → Stops s t.at t.progress r → Stops s at p r

-- A recording is read: its mode, and its presses to the end.
pub record Reads (s : List ℕ) (m : ℕ) (xs : List KeyPress) : Type 0 where
  pub begun : Begun
  pub begins : BeginAllows s (Ok begun)
  pub mode : begun.progress.mode ≡ m
  pub walk : Walk s begun.at begun.progress xs

-- Or its reading is broken off with a refusal: at the mode, or at a step.
pub data BrokenOff (s : List ℕ) (r : Refusal) : Type 0 where
  at_the_mode : BeginAllows s (Err r) → BrokenOff s r
  at_a_step : {b : Begun} → BeginAllows s (Ok b) → Stops s b.at b.progress r → BrokenOff s r

-- Any recording is read, or broken off.
abbrev pub EveryRecording : Type 0
EveryRecording = (s : List ℕ) → ((m : ℕ) × (xs : List KeyPress) × Reads s m xs) ⊎ ((r : Refusal) × BrokenOff s r)

-- A drill that was written is read from the bytes that were written, and no other drill is.
abbrev pub WriteRead : Type 0
WriteRead =
    (m : ℕ) (ns before after : List ℕ) (n : ℕ) → RecordAllows m ns before (Ok n) after
    → Reads (take n after) m (map press_in ns) × ((m' : ℕ) (xs : List KeyPress) → Reads (take n after) m' xs → (m' ≡ m) × (xs ≡ map press_in ns))

-- A recording of bytes that was read is written, where there is room for it, as the same bytes, and what is behind them is as it was.
abbrev pub ReadWrite : Type 0
ReadWrite =
    (s : List ℕ) (m : ℕ) (xs : List KeyPress) (before after : List ℕ) (r : Result ℕ Refusal) → AllBytes s → Reads s m xs → length s ≤ length before → RecordAllows m (map number_of xs) before r after
    → (r ≡ Ok (length s)) × (after ≡ at_front s before)

-- What is typed and committed of words one by one: each word's keys typed all at once, the word shown into an output with room for any text, what was written committed, and a newline behind it.
pub data Lines (m : ℕ) : List (List ℕ) → List ℕ → Type 0 where
  no_word : Lines m [] []
  word_and_more : {ks : List ℕ} {kss : List (List ℕ)} {t : TypeAll} {before after part text : List ℕ} {a : Result ℕ Refusal} {n : ℕ} → TypeAllows m ks t → most_bytes ≤ length before
      → ShowAllows t.word before a after → write_says a ≡ answered (n ∷ []) → CommitAllows m ks (take n after) part → Lines m kss text → Lines m (ks ∷ kss) (part ++ (newline ∷ text))

-- Of the runs of keys between the spaces of any drill that is read there is such a text.
abbrev pub EveryDrillTyped : Type 0
EveryDrillTyped = (s : List ℕ) (m : ℕ) (xs : List KeyPress) → Reads s m xs → (text : List ℕ) × Lines m (words_from [] xs) text

-- A replay writes what typing and committing the runs of keys between the spaces gives.
abbrev pub ReplayIsTyping : Type 0
ReplayIsTyping =
    (s : List ℕ) (m : ℕ) (xs : List KeyPress) (text before after : List ℕ) (r : ReplayAnswer) → Reads s m xs → Lines m (words_from [] xs) text → length text ≤ length before → ReplayAllows s before r after
    → (r.answer ≡ Ok (length text)) × (after ≡ at_front text before)

-- Where the output is too short for it: 4 with the bytes needed. The output is as it was, and the summary all zeros.
abbrev pub ReplayTooShort : Type 0
ReplayTooShort =
    (s : List ℕ) (m : ℕ) (xs : List KeyPress) (text before after : List ℕ) (r : ReplayAnswer) → Reads s m xs → Lines m (words_from [] xs) text → length before < length text → ReplayAllows s before r after
    → (r.answer ≡ Err (record { number = 4; value = length text })) × (after ≡ before) × (r.summary ≡ summary nothing 0)

-- Of a recording that is broken off it gives that refusal, with its place. The output is as it was, and the summary all zeros.
abbrev pub ReplayRefuses : Type 0
ReplayRefuses =
    (s : List ℕ) (x : Refusal) (before after : List ℕ) (r : ReplayAnswer) → BrokenOff s x → ReplayAllows s before r after → (r.answer ≡ Err x) × (after ≡ before) × (r.summary ≡ summary nothing 0)

-- how many of the presses are of a key that is no space
abbrev pub keys_in : List KeyPress → ℕ
keys_in [] = 0
keys_in (x ∷ xs) = elim (is_space x.key) [ true ↦ keys_in xs | false ↦ suc (keys_in xs) ]

-- The summary adds up: each word is kept or restored, each key but the spaces acted, undid or was appended, and the time is that of all presses.
pub record AddsUp (xs : List KeyPress) (s : Summary) : Type 0 where
  pub words : s.words ≡ length (words_from [] xs)
  pub kept_or_restored : s.kept + s.restored ≡ s.words
  pub keys : s.acted + s.undone + s.appended ≡ keys_in xs
  pub time : s.milliseconds ≡ milliseconds xs

abbrev pub SummaryAddsUp : Type 0
SummaryAddsUp = (s : List ℕ) (m : ℕ) (xs : List KeyPress) (before after : List ℕ) (r : ReplayAnswer) (n : ℕ) → Reads s m xs → ReplayAllows s before r after → r.answer ≡ Ok n → AddsUp xs r.summary

-- Any two results that a contract allows at the same arguments are equal, with the output and the reader after the call.
pub record RecordedTight : Type 0 where
  pub reading_a_number : (bs : List ℕ) (at : ℕ) (r r' : Option Number) → NumberAllows bs at r → NumberAllows bs at r' → r ≡ r'
  pub writing_a_number : (n : ℕ) (g g' : Groups) → WrittenAllows n g → WrittenAllows n g' → g ≡ g'
  pub beginning : (s : List ℕ) (r r' : Result Begun Refusal) → BeginAllows s r → BeginAllows s r' → r ≡ r'
  pub pressing : (s : List ℕ) (at : ℕ) (p : Progress) (t t' : Stepped) → PressAllows s at p t → PressAllows s at p t' → t ≡ t'
  pub recording : (m : ℕ) (ns before after after' : List ℕ) (r r' : Result ℕ Refusal) → RecordAllows m ns before r after → RecordAllows m ns before r' after' → (r ≡ r') × (after ≡ after')
  pub reading_on : (before after after' : Reader) (p : Progress) (t t' : Stepped) → NextAllows before p t after → NextAllows before p t' after' → (t ≡ t') × (after ≡ after')
  pub replaying : (s before after after' : List ℕ) (r r' : ReplayAnswer) → ReplayAllows s before r after → ReplayAllows s before r' after' → (r ≡ r') × (after ≡ after')

-- And none is empty.
pub record RecordedPossible : Type 0 where
  pub reading_a_number : (bs : List ℕ) (at : ℕ) → (r : Option Number) × NumberAllows bs at r
  pub writing_a_number : (n : ℕ) → (g : Groups) × WrittenAllows n g
  pub beginning : (s : List ℕ) → (r : Result Begun Refusal) × BeginAllows s r
  pub pressing : (s : List ℕ) (at : ℕ) (p : Progress) → (t : Stepped) × PressAllows s at p t
  pub recording : (m : ℕ) (ns before : List ℕ) → (r : Result ℕ Refusal) × (after : List ℕ) × RecordAllows m ns before r after
  pub reading_on : (before : Reader) (p : Progress) → (t : Stepped) × (after : Reader) × NextAllows before p t after
  pub replaying : (s before : List ℕ) → (r : ReplayAnswer) × (after : List ℕ) × ReplayAllows s before r after
