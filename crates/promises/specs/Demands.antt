-- The demands, as one statement over the entries' contracts: `Demands`. Each speaks of any results that the contracts allow (specs/ContractsAllow.antt), and of answers in document 01's numbers (rules/specs/AnswersInNumbers.antt).
use Rattle.std.specs.Prelude.{◌≡◌, List, [], ◌∷◌, ◌++◌, ◌⊎◌, ℕ, length, drop, Option, Result, ⊤}
use Rattle.rules.specs.Letters.{telex}
use Rattle.rules.specs.TakingApart.{verdict}
use Rattle.rules.specs.TonePlace.{tone_place}
use Rattle.rules.specs.TheWord.{new_word, word_of, at_front, holding, outcome_of}
use Rattle.rules.specs.KeyRoles.{key_does, type}
use Rattle.rules.specs.Decision.{decision}
use Rattle.rules.specs.CodePoints.{shown}
use Rattle.rules.specs.Speller.{read}
use Rattle.rules.specs.Refusals.{Call, table, FirstOf, NoneHolds}
use Rattle.rules.specs.WhatComesBack.{start_call, step_call, typed, type_call, show_call, word_call, commit_call, keys_of, spell_call, room_call}
use Rattle.rules.specs.AnswersInNumbers.{Says, answered, refusing, outcome_numbers, place_numbers, decision_number, start_says, step_says, type_says, write_says, place_says, verdict_says, decision_says, commit_says}
use Rattle.rules.specs.Drill.{newline, mode_of, word_line, refused_line, answer_line, word_line_with_keys, answer_line_with_keys}
use Rattle.rules.specs.SpellProgram.{text_call, spell_line}
use Rattle.rules.specs.declared.Word.{Word}
use Rattle.rules.specs.declared.Refusal.{Refusal}
use Rattle.rules.specs.declared.Start.{Start}
use Rattle.rules.specs.declared.Step.{Step}
use Rattle.rules.specs.declared.TypeAll.{TypeAll}
use Rattle.rules.specs.declared.Decision.TheVariants.{Keep, Restore}
use Rattle.lines.specs.declared.Program.{Program}
use Rattle.lines.specs.declared.Program.TheVariants.{Drill, DrillWithKeys, Spell}
use Rattle.session.specs.declared.Session.{Session}
use Rattle.promises.specs.ContractsAllow.{StartAllows, StepAllows, TypeAllows, ShowAllows, PlaceAllows, VerdictAllows, DecisionAllows, CommitAllows, QuestionAllows, SpellAllows, LineAllows, KeyAllows}
use Rattle.promises.specs.Exactly.{Exactly}
use Rattle.promises.specs.Box.{BoxAnswers, BoxTight, BoxPossible}
use Rattle.promises.specs.EachKey.{EveryPrefix, AfterEachKey, AfterTheList, AtEachKey}
use Rattle.promises.specs.RoundTrip.{SpelledBack, OneList, OnlySyllables}
use Rattle.promises.specs.TwoOrders.{FirstHalf}
use Rattle.promises.specs.EachSyllable.{SecondHalf}
use Rattle.promises.specs.Committed.{ShownIsGranted, KeptOrKeys}
use Rattle.promises.specs.Recorded.{NumbersBack, BytesBack, ReaderSteps, StandsStill, EveryRecording, WriteRead, ReadWrite, EveryDrillTyped, ReplayIsTyping, ReplayTooShort, ReplayRefuses, SummaryAddsUp, RecordedTight, RecordedPossible}
use Rattle.rules.specs.declared.Outcome.{Outcome}
use Rattle.rules.specs.declared.Decision.{Decision}

-- Demand 1. Any bytes, any mode number, any record: an answer, or a numbered refusal. A refused call changes no buffer and no record, and returns exactly what the refusal table says.
pub record Demand1 : Type 0 where
  -- of any call, no row of the table holds, or some row is the first that does
  pub one_or_the_other : (c : Call) → NoneHolds (table c) ⊎ ((x : Refusal) × FirstOf (table c) x)
  -- the record in the result is a new Telex word after a refused start or list, and the old one after a refused step
  pub starting : (m : ℕ) (r : Start) → StartAllows m r → Exactly {R = Says × Word} (start_call m) (start_says r.answer, r.word) (answered [], new_word m) (λ x. (refusing x, new_word telex))
  pub stepping : (w : Word) (k : ℕ) (r : Step) → StepAllows w k r →
      Exactly {R = Says × Word} (step_call w k) (step_says r.answer, r.word) (answered (outcome_numbers (outcome_of (key_does (word_of w) k))), holding w (type (word_of w) k)) (λ x. (refusing x, w))
  pub typing : (m : ℕ) (ks : List ℕ) (r : TypeAll) → TypeAllows m ks r →
      Exactly {R = Says × Word} (type_call m ks) (type_says r.answer, r.word) (answered [], holding (new_word m) (typed m ks)) (λ x. (refusing x, new_word telex))
  -- the output after a refusal is as it was before
  pub showing : (w : Word) (before after : List ℕ) (r : Result ℕ Refusal) → ShowAllows w before r after →
      Exactly {R = Says × List ℕ} (show_call w before) (write_says r, after) (answered (length (shown (word_of w).state) ∷ []), at_front (shown (word_of w).state) before) (λ x. (refusing x, before))
  pub spelling : (m : ℕ) (text before after : List ℕ) (r : Result ℕ Refusal) → SpellAllows m text before r after →
      Exactly {R = Says × List ℕ} (spell_call m text before) (write_says r, after) (answered (length (keys_of m (read text)) ∷ []), at_front (keys_of m (read text)) before) (λ x. (refusing x, before))
  pub placing : (w : Word) (r : Result (Option ℕ) Refusal) → PlaceAllows w r → Exactly (word_call w) (place_says r) (answered (place_numbers (tone_place (word_of w).state.letters (word_of w).state.tone))) refusing
  pub judging : (w : Word) (r : Result ℕ Refusal) → VerdictAllows w r → Exactly (word_call w) (verdict_says r) (answered (verdict (word_of w).state.letters (word_of w).state.tone ∷ [])) refusing
  pub deciding : (w : Word) (r : Result Decision Refusal) → DecisionAllows w r → Exactly (word_call w) (decision_says r) (answered (decision_number (decision (word_of w)) ∷ [])) refusing
  -- commit hands back the text or the keys themselves, and where it is refused an empty part of the keys; its question gives the number
  pub asking : (m : ℕ) (ks text : List ℕ) (r : Result ⊤ Refusal) → QuestionAllows m ks text r → Exactly (commit_call m ks text) (commit_says r) (answered []) refusing
  pub keeping : (m : ℕ) (ks text part : List ℕ) (a : CommitAllows m ks text part) → NoneHolds (table (commit_call m ks text)) → decision (typed m ks) ≡ Keep → (part ≡ text) × (a.result.ref_ptr ≡ a.args.1.1.0.ref_ptr)
  pub restoring : (m : ℕ) (ks text part : List ℕ) (a : CommitAllows m ks text part) → NoneHolds (table (commit_call m ks text)) → decision (typed m ks) ≡ Restore → (part ≡ ks) × (a.result.ref_ptr ≡ a.args.1.0.ref_ptr)
  pub not_committing : (m : ℕ) (ks text part : List ℕ) (x : Refusal) (a : CommitAllows m ks text part) → FirstOf (table (commit_call m ks text)) x → (part ≡ []) × (a.result.ref_ptr ≡ a.args.1.0.ref_ptr)
  -- a line: its answer is the word's, or its refusal's, and is written where there is room for it
  pub drill_answers : (line : List ℕ) → NoneHolds (table (type_call (mode_of line) (drop 2 line))) → answer_line line ≡ word_line (typed (mode_of line) (drop 2 line))
  pub drill_refuses : (line : List ℕ) (x : Refusal) → FirstOf (table (type_call (mode_of line) (drop 2 line))) x → answer_line line ≡ refused_line x
  pub drill_with_keys_answers : (line : List ℕ) → NoneHolds (table (type_call (mode_of line) (drop 2 line))) → answer_line_with_keys line ≡ word_line_with_keys (typed (mode_of line) (drop 2 line))
  pub drill_with_keys_refuses : (line : List ℕ) (x : Refusal) → FirstOf (table (type_call (mode_of line) (drop 2 line))) x → answer_line_with_keys line ≡ refused_line x
  pub spell_answers : (line : List ℕ) → NoneHolds (table (text_call (mode_of line) (drop 2 line))) → spell_line line ≡ keys_of (mode_of line) (read (drop 2 line)) ++ (newline ∷ [])
  pub spell_refuses : (line : List ℕ) (x : Refusal) → FirstOf (table (text_call (mode_of line) (drop 2 line))) x → spell_line line ≡ refused_line x
  pub drilling : (line before after : List ℕ) (r : Result ℕ Refusal) → LineAllows Drill line before r after →
      Exactly {R = Says × List ℕ} (room_call (answer_line line) before) (write_says r, after) (answered (length (answer_line line) ∷ []), at_front (answer_line line) before) (λ x. (refusing x, before))
  pub drilling_with_keys : (line before after : List ℕ) (r : Result ℕ Refusal) → LineAllows DrillWithKeys line before r after →
      Exactly {R = Says × List ℕ} (room_call (answer_line_with_keys line) before) (write_says r, after) (answered (length (answer_line_with_keys line) ∷ []), at_front (answer_line_with_keys line) before) (λ x. (refusing x, before))
  pub spelling_lines : (line before after : List ℕ) (r : Result ℕ Refusal) → LineAllows Spell line before r after →
      Exactly {R = Says × List ℕ} (room_call (spell_line line) before) (write_says r, after) (answered (length (spell_line line) ∷ []), at_front (spell_line line) before) (λ x. (refusing x, before))
  -- the session after a refused key is as it was before
  pub in_session : (before after : Session) (k : ℕ) (r : Result Outcome Refusal) → KeyAllows before k r after →
      Exactly {R = Says × Session} (step_call before.word k) (step_says r, after) (answered (outcome_numbers (outcome_of (key_does (word_of before.word) k))), record { word = holding before.word (type (word_of before.word) k) }) (λ x. (refusing x, before))
  -- and the calls of the box
  pub in_the_box : BoxAnswers

-- Demand 2. After each key the letters, tone, tone place, verdict and keep-or-restore decision are those of the rules.
-- The other way, every valid syllable as shown is spelled, in either mode, into its one standard key list, and typing that list shows the syllable again.
pub record Demand2 : Type 0 where
  pub every_prefix : EveryPrefix
  pub after_each_key : AfterEachKey
  pub after_the_list : AfterTheList
  pub both_the_same : AtEachKey
  pub spelled_back : SpelledBack
  pub one_list : OneList
  pub only_syllables : OnlySyllables
  -- what the decision is for: the shown text is granted, and what is handed back is these keys, or a text with a reason to keep it
  pub shown_is_granted : ShownIsGranted
  pub kept_or_keys : KeptOrKeys

-- Demand 3. An open word with room for two more keys, and two keys of different families: if each alone would act, both orders give the same letters, tone, text, verdict, decision and counts; only the kept keys differ.
-- And for each valid syllable: its bare letters, then its stroke, shape and tone keys in any order, give that syllable.
pub record Demand3 : Type 0 where
  pub two_orders : FirstHalf
  pub each_syllable : SecondHalf

-- The contracts leave one possible result: any two that one allows at the same arguments are equal, with the output after the call.
pub record Tight : Type 0 where
  pub starting : (m : ℕ) (r r' : Start) → StartAllows m r → StartAllows m r' → r ≡ r'
  pub stepping : (w : Word) (k : ℕ) (r r' : Step) → StepAllows w k r → StepAllows w k r' → r ≡ r'
  pub typing : (m : ℕ) (ks : List ℕ) (r r' : TypeAll) → TypeAllows m ks r → TypeAllows m ks r' → r ≡ r'
  pub showing : (w : Word) (before after after' : List ℕ) (r r' : Result ℕ Refusal) → ShowAllows w before r after → ShowAllows w before r' after' → (r ≡ r') × (after ≡ after')
  pub spelling : (m : ℕ) (text before after after' : List ℕ) (r r' : Result ℕ Refusal) → SpellAllows m text before r after → SpellAllows m text before r' after' → (r ≡ r') × (after ≡ after')
  pub placing : (w : Word) (r r' : Result (Option ℕ) Refusal) → PlaceAllows w r → PlaceAllows w r' → r ≡ r'
  pub judging : (w : Word) (r r' : Result ℕ Refusal) → VerdictAllows w r → VerdictAllows w r' → r ≡ r'
  pub deciding : (w : Word) (r r' : Result Decision Refusal) → DecisionAllows w r → DecisionAllows w r' → r ≡ r'
  pub asking : (m : ℕ) (ks text : List ℕ) (r r' : Result ⊤ Refusal) → QuestionAllows m ks text r → QuestionAllows m ks text r' → r ≡ r'
  pub committing : (m : ℕ) (ks text part part' : List ℕ) → CommitAllows m ks text part → CommitAllows m ks text part' → part ≡ part'
  pub answering_a_line : (p : Program) (line before after after' : List ℕ) (r r' : Result ℕ Refusal) → LineAllows p line before r after → LineAllows p line before r' after' → (r ≡ r') × (after ≡ after')
  pub in_session : (before after after' : Session) (k : ℕ) (r r' : Result Outcome Refusal) → KeyAllows before k r after → KeyAllows before k r' after' → (r ≡ r') × (after ≡ after')
  pub in_the_box : BoxTight

-- And none is empty: at any arguments the contract allows some result.
pub record Possible : Type 0 where
  pub starting : (m : ℕ) → (r : Start) × StartAllows m r
  pub stepping : (w : Word) (k : ℕ) → (r : Step) × StepAllows w k r
  pub typing : (m : ℕ) (ks : List ℕ) → (r : TypeAll) × TypeAllows m ks r
  pub showing : (w : Word) (before : List ℕ) → (r : Result ℕ Refusal) × (after : List ℕ) × ShowAllows w before r after
  pub spelling : (m : ℕ) (text before : List ℕ) → (r : Result ℕ Refusal) × (after : List ℕ) × SpellAllows m text before r after
  pub placing : (w : Word) → (r : Result (Option ℕ) Refusal) × PlaceAllows w r
  pub judging : (w : Word) → (r : Result ℕ Refusal) × VerdictAllows w r
  pub deciding : (w : Word) → (r : Result Decision Refusal) × DecisionAllows w r
  pub asking : (m : ℕ) (ks text : List ℕ) → (r : Result ⊤ Refusal) × QuestionAllows m ks text r
  pub committing : (m : ℕ) (ks text : List ℕ) → (part : List ℕ) × CommitAllows m ks text part
  pub answering_a_line : (p : Program) (line before : List ℕ) → (r : Result ℕ Refusal) × (after : List ℕ) × LineAllows p line before r after
  pub in_session : (before : Session) (k : ℕ) → (r : Result Outcome Refusal) × (after : Session) × KeyAllows before k r after
  pub in_the_box : BoxPossible

-- Recorded drills, of request W-204. A recording is read, or refused with the place; what is written is read and what is read is written, both ways the same.
-- A replay gives the words that typing the keys between the spaces gives, with a summary that adds up, or it is refused and writes nothing.
pub record Recordings : Type 0 where
  pub numbers_back : NumbersBack
  pub bytes_back : BytesBack
  pub reader_steps : ReaderSteps
  pub stands_still : StandsStill
  pub every_recording : EveryRecording
  pub write_read : WriteRead
  pub read_write : ReadWrite
  pub every_drill_typed : EveryDrillTyped
  pub replay_is_typing : ReplayIsTyping
  pub summary_adds_up : SummaryAddsUp
  pub replay_too_short : ReplayTooShort
  pub replay_refuses : ReplayRefuses
  pub tight : RecordedTight
  pub possible : RecordedPossible

pub record Demands : Type 0 where
  pub demand_1 : Demand1
  pub demand_2 : Demand2
  pub demand_3 : Demand3
  pub tight : Tight
  pub possible : Possible
  pub recordings : Recordings
