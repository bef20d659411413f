-- 2 What comes back (docs/RULES.md): the whole answer of each entry, on success and on refusal.
use Rattle.std.specs.Prelude.{List, [], ◌∷◌, ℕ, length, Option, Some, None, Result, Ok, Err, ⊤}
use Rattle.rules.specs.Letters.{telex}
use Rattle.rules.specs.TakingApart.{verdict}
use Rattle.rules.specs.TonePlace.{tone_place}
use Rattle.rules.specs.TheWord.{Typed, new_word, word_of, at_front, holding, outcome_of, counted}
use Rattle.rules.specs.KeyRoles.{key_does, type_list}
use Rattle.rules.specs.Decision.{decision, handed_back}
use Rattle.rules.specs.CodePoints.{shown}
use Rattle.rules.specs.Speller.{Reading, stuck_at, reading, read, spelled}
use Rattle.rules.specs.Refusals.{to_commit, to_spell, Call, refusal}
use Rattle.rules.specs.declared.Word.{Word}
use Rattle.rules.specs.declared.Refusal.{Refusal}
use Rattle.rules.specs.declared.Start.{Start}
use Rattle.rules.specs.declared.Step.{Step}
use Rattle.rules.specs.declared.TypeAll.{TypeAll}
use Rattle.rules.specs.declared.Decision.{Decision}

-- 2.1 Start is handed a mode and gives a new word in it. Refused, it gives a new word in Telex.
abbrev pub start_call : ℕ → Call
start_call m = record { record? = None; mode? = Some m; keys? = None; text? = None; room? = None }

abbrev pub start_or : Option Refusal → ℕ → Start
start_or None m = record { answer = Ok tt; word = new_word m }
start_or (Some r) m = record { answer = Err r; word = new_word telex }

abbrev pub start : ℕ → Start
start m = start_or (refusal (start_call m)) m

-- 2.2 Step is handed a word and one key, and reads the mode from the word. It says what the key did, and gives the
-- record with the word after this key. Refused, it gives the record as it was.
abbrev pub step_call : Word → ℕ → Call
step_call w k = record { record? = Some w; mode? = None; keys? = Some (record { mode = w.mode; already = w.typed; bytes = k ∷ [] }); text? = None; room? = None }

abbrev pub step_or : Option Refusal → Word → ℕ → Step
step_or None w k = record { answer = Ok (outcome_of (key_does (word_of w) k)); word = holding w (counted (word_of w) k (key_does (word_of w) k)) }
step_or (Some r) w k = record { answer = Err r; word = w }

unfoldable pub step : Word → ℕ → Step
step w k = step_or (refusal (step_call w k)) w k

-- 2.3 Typing a list is handed a mode and keys. It gives the record of a new word into which all of them were typed.
-- Refused, it gives a new word in Telex.
abbrev pub type_call : ℕ → List ℕ → Call
type_call m ks = record { record? = None; mode? = Some m; keys? = Some (record { mode = m; already = 0; bytes = ks }); text? = None; room? = None }

abbrev pub typed : ℕ → List ℕ → Typed
typed m ks = type_list (word_of (new_word m)) ks

abbrev pub type_or : Option Refusal → ℕ → List ℕ → TypeAll
type_or None m ks = record { answer = Ok tt; word = holding (new_word m) (typed m ks) }
type_or (Some r) m ks = record { answer = Err r; word = new_word telex }

unfoldable pub type_all : ℕ → List ℕ → TypeAll
type_all m ks = type_or (refusal (type_call m ks)) m ks

-- 2.4 An entry with a lent output says how many bytes it wrote. They stand at the front of the output, and what is
-- behind them is as it was. Refused, all of the output is as it was.
pub record Written : Type 0 where
  pub answer : Result ℕ Refusal
  pub output : List ℕ

abbrev pub write_or : Option Refusal → List ℕ → List ℕ → Written
write_or None text out = record { answer = Ok (length text); output = at_front text out }
write_or (Some r) text out = record { answer = Err r; output = out }

-- 2.5 Show is handed a word and an output, and writes the text that the word shows.
abbrev pub show_call : Word → List ℕ → Call
show_call w out = record { record? = Some w; mode? = None; keys? = None; text? = None; room? = Some (record { needed = length (shown (word_of w).state); there = length out }) }

unfoldable pub show : Word → List ℕ → Written
show w out = write_or (refusal (show_call w out)) (shown (word_of w).state) out

-- 2.6 Place, verdict and decision are handed a word and nothing else.
abbrev pub word_call : Word → Call
word_call w = record { record? = Some w; mode? = None; keys? = None; text? = None; room? = None }

-- 2.7 Place says where the tone of the word stands, or that it stands nowhere.
abbrev pub place_or : Option Refusal → Word → Result (Option ℕ) Refusal
place_or None w = Ok (tone_place (word_of w).state.letters (word_of w).state.tone)
place_or (Some r) w = Err r

unfoldable pub place_answer : Word → Result (Option ℕ) Refusal
place_answer w = place_or (refusal (word_call w)) w

-- 2.8 Verdict says the verdict on the word.
abbrev pub verdict_or : Option Refusal → Word → Result ℕ Refusal
verdict_or None w = Ok (verdict (word_of w).state.letters (word_of w).state.tone)
verdict_or (Some r) w = Err r

unfoldable pub verdict_answer : Word → Result ℕ Refusal
verdict_answer w = verdict_or (refusal (word_call w)) w

-- 2.9 Decision says whether the word is kept or restored.
abbrev pub decision_or : Option Refusal → Word → Result Decision Refusal
decision_or None w = Ok (decision (word_of w))
decision_or (Some r) w = Err r

unfoldable pub decision_answer : Word → Result Decision Refusal
decision_answer w = decision_or (refusal (word_call w)) w

-- 2.10 Commit is handed a mode, keys, and a text that must be what they show. It hands back this text or these keys,
-- by the decision on the word that the keys make. Refused, it hands back an empty part of the keys.
abbrev pub commit_call : ℕ → List ℕ → List ℕ → Call
commit_call m ks text =
    record { record? = None; mode? = Some m; keys? = Some (record { mode = m; already = 0; bytes = ks }); text? = Some (to_commit (shown (typed m ks).state) text); room? = None }

abbrev pub commit_or : Option Refusal → ℕ → List ℕ → List ℕ → List ℕ
commit_or None m ks text = handed_back (decision (typed m ks)) text ks
commit_or (Some r) m ks text = []

unfoldable pub commit : ℕ → List ℕ → List ℕ → List ℕ
commit m ks text = commit_or (refusal (commit_call m ks text)) m ks text

-- 2.11 Commit's question is handed the same. It says that commit is granted, or its refusal.
abbrev pub granted_or : Option Refusal → Result ⊤ Refusal
granted_or None = Ok tt
granted_or (Some r) = Err r

unfoldable pub commit_answer : ℕ → List ℕ → List ℕ → Result ⊤ Refusal
commit_answer m ks text = granted_or (refusal (commit_call m ks text))

-- 2.12 The speller is handed a mode, a text and an output. It writes the standard key list of the syllable that the
-- text shows.
abbrev pub keys_of : ℕ → Reading → List ℕ
keys_of mode (stuck_at n) = []
keys_of mode (reading ss) = spelled mode ss

abbrev pub spell_call : ℕ → List ℕ → List ℕ → Call
spell_call m text out =
    record { record? = None; mode? = Some m; keys? = None; text? = Some (to_spell text); room? = Some (record { needed = length (keys_of m (read text)); there = length out }) }

unfoldable pub spell : ℕ → List ℕ → List ℕ → Written
spell m text out = write_or (refusal (spell_call m text out)) (keys_of m (read text)) out

-- 2.13 A call that is handed a text to write and an output, and nothing else, is refused only where the output is too
-- short.
abbrev pub room_call : List ℕ → List ℕ → Call
room_call text out = record { record? = None; mode? = None; keys? = None; text? = None; room? = Some (record { needed = length text; there = length out }) }
