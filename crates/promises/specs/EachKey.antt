-- Demand 2, after each key, of whatever the contracts allow: the letters, tone, tone place, verdict and decision are those of the rules; and typing a list all at once gives the word that its keys give one by one.
use Rattle.std.specs.Prelude.{◌≡◌, List, [], ◌∷◌, ◌++◌, ℕ, ◌+◌, ◌≤◌, T, length, Option, Result}
use Rattle.rules.specs.TheWord.{most_keys, new_word, word_of, at_front, holding, outcome_of}
use Rattle.rules.specs.KeyRoles.{is_key, key_does}
use Rattle.rules.specs.TakingApart.{verdict}
use Rattle.rules.specs.TonePlace.{tone_place}
use Rattle.rules.specs.CodePoints.{shown}
use Rattle.rules.specs.Decision.{decision}
use Rattle.rules.specs.Refusals.{all, is_mode}
use Rattle.rules.specs.WhatComesBack.{typed}
use Rattle.rules.specs.KeyPlaces.{PlacesTold}
use Rattle.rules.specs.AnswersInNumbers.{answered, outcome_numbers, place_numbers, decision_number, start_says, step_says, type_says, write_says, place_says, verdict_says, decision_says}
use Rattle.rules.specs.declared.Word.{Word}
use Rattle.rules.specs.declared.Start.{Start}
use Rattle.rules.specs.declared.Step.{Step}
use Rattle.rules.specs.declared.TypeAll.{TypeAll}
use Rattle.promises.specs.ContractsAllow.{StartAllows, StepAllows, TypeAllows, ShowAllows, PlaceAllows, VerdictAllows, DecisionAllows}
use Rattle.rules.specs.declared.Refusal.{Refusal}
use Rattle.rules.specs.declared.Decision.{Decision}

-- a word, and what steps by these keys, one after the other, make of it
pub data Stepped : Word → List ℕ → Word → Type 0 where
  no_key : {w : Word} → Stepped w [] w
  key_and_more : {w v : Word} {k : ℕ} {ks : List ℕ} {r : Step} → StepAllows w k r → Stepped r.word ks v → Stepped w (k ∷ ks) v

-- Any mode that exists and any list of up to 32 keys that it allows.
pub record AcceptedKeys (m : ℕ) (ks : List ℕ) : Type 0 where
  pub mode : T (is_mode m)
  pub few : length ks ≤ most_keys
  pub keys : T (all (is_key m) ks)

-- So what is said of every accepted list is said after each key of one.
abbrev pub EveryPrefix : Type 0
EveryPrefix = (m : ℕ) (ks more : List ℕ) → AcceptedKeys m (ks ++ more) → AcceptedKeys m ks

-- The word after these keys, and the answers about it, are those of the rules; no answer is a refusal.
pub record AsRuled (m : ℕ) (ks : List ℕ) (v : Word) : Type 0 where
  -- letters, tone, open or closed mark, places of keys, kept keys and counts, in a record whose other places are as in a new word
  pub word : v ≡ holding (new_word m) (typed m ks)
  pub holds : word_of v ≡ typed m ks
  -- the places of keys tell which key made which letter
  pub places : PlacesTold v
  -- the text, into an output with room for it; the tone's place, the verdict and the decision
  pub text : {before after : List ℕ} {r : Result ℕ Refusal} → length (shown (typed m ks).state) ≤ length before → ShowAllows v before r after →
      (write_says r ≡ answered (length (shown (typed m ks).state) ∷ [])) × (after ≡ at_front (shown (typed m ks).state) before)
  pub place : {r : Result (Option ℕ) Refusal} → PlaceAllows v r → place_says r ≡ answered (place_numbers (tone_place (typed m ks).state.letters (typed m ks).state.tone))
  pub judgement : {r : Result ℕ Refusal} → VerdictAllows v r → verdict_says r ≡ answered (verdict (typed m ks).state.letters (typed m ks).state.tone ∷ [])
  pub keep_or_restore : {r : Result Decision Refusal} → DecisionAllows v r → decision_says r ≡ answered (decision_number (decision (typed m ks)) ∷ [])
  -- a key more that is allowed, where there is room for it, is answered by what the rules say that it does
  pub next : {k : ℕ} {r : Step} → length ks + 1 ≤ most_keys → T (is_key m k) → StepAllows v k r → step_says r.answer ≡ answered (outcome_numbers (outcome_of (key_does (typed m ks) k)))

-- one by one, from a new word
abbrev pub AfterEachKey : Type 0
AfterEachKey = (m : ℕ) (ks : List ℕ) (new : Start) (v : Word) → AcceptedKeys m ks → StartAllows m new → Stepped new.word ks v → (start_says new.answer ≡ answered []) × AsRuled m ks v

-- all at once
abbrev pub AfterTheList : Type 0
AfterTheList = (m : ℕ) (ks : List ℕ) (r : TypeAll) → AcceptedKeys m ks → TypeAllows m ks r → (type_says r.answer ≡ answered []) × AsRuled m ks r.word

-- the same word both ways
abbrev pub AtEachKey : Type 0
AtEachKey =
    (m : ℕ) (ks : List ℕ) (new : Start) (v : Word) (r : TypeAll) → AcceptedKeys m ks → StartAllows m new → Stepped new.word ks v → TypeAllows m ks r
    → (type_says r.answer ≡ answered []) × (r.word ≡ v)
