-- Demand 1 for the calls of the box, of whatever their contracts allow: the number returned, the value and the lent bytes. How a record lies in 169 bytes is said in layout/specs/Places.antt, how the values of an answer are one number in felcantuzza/specs/Calls.antt.
use Rattle.std.specs.Prelude.{◌≡◌, Bool, true, not, List, [], ◌∷◌, ℕ, T, length, Some, None}
use contract.Lifetimes.{Lfts}
use denote.Triple.Entry.{Args}
use denote.Triple.Clauses.{AtExit}
use Rattle.rules.specs.TakingApart.{verdict}
use Rattle.rules.specs.TonePlace.{tone_place}
use Rattle.rules.specs.TheWord.{new_word, word_of, at_front, holding, outcome_of}
use Rattle.rules.specs.KeyRoles.{key_does, type}
use Rattle.rules.specs.Decision.{decision}
use Rattle.rules.specs.CodePoints.{shown}
use Rattle.rules.specs.Speller.{read}
use Rattle.rules.specs.Refusals.{Call, table, FirstOf, NoneHolds}
use Rattle.rules.specs.WhatComesBack.{start_call, step_call, typed, show_call, word_call, commit_call, keys_of, spell_call}
use Rattle.rules.specs.AnswersInNumbers.{outcome_numbers, place_numbers, decision_number}
use Rattle.rules.specs.declared.Word.{Word}
use Rattle.rules.specs.declared.Refusal.{Refusal}
use Rattle.layout.specs.Places.{as_bytes, is_long, is_record, held}
use Rattle.felcantuzza.specs.Calls.{in_one, placed}
use Rattle.felcantuzza.specs.contracts.fz_start as fz-start
use Rattle.felcantuzza.proofs.fz_start.Reads as fz-start-reads
use Rattle.felcantuzza.specs.contracts.fz_type as fz-type
use Rattle.felcantuzza.proofs.fz_type.Reads as fz-type-reads
use Rattle.felcantuzza.specs.contracts.fz_type_and_show as fz-type-and-show
use Rattle.felcantuzza.proofs.fz_type_and_show.Reads as fz-type-and-show-reads
use Rattle.felcantuzza.specs.contracts.fz_show as fz-show
use Rattle.felcantuzza.proofs.fz_show.Reads as fz-show-reads
use Rattle.felcantuzza.specs.contracts.fz_verdict as fz-verdict
use Rattle.felcantuzza.proofs.fz_verdict.Reads as fz-verdict-reads
use Rattle.felcantuzza.specs.contracts.fz_place as fz-place
use Rattle.felcantuzza.proofs.fz_place.Reads as fz-place-reads
use Rattle.felcantuzza.specs.contracts.fz_decision as fz-decision
use Rattle.felcantuzza.proofs.fz_decision.Reads as fz-decision-reads
use Rattle.felcantuzza.specs.contracts.fz_commit as fz-commit
use Rattle.felcantuzza.proofs.fz_commit.Reads as fz-commit-reads
use Rattle.felcantuzza.specs.contracts.fz_spell as fz-spell
use Rattle.felcantuzza.proofs.fz_spell.Reads as fz-spell-reads

-- What the contract of each call allows: of these numbers and lent bytes this number returned, this value, and these bytes after it.
pub record FzStartAllows (mode : ℕ) (before : List ℕ) (returned value : ℕ) (after : List ℕ) : Type 0 where
  pub lifetimes : Lfts 2
  pub args : Args fz-start.signature lifetimes
  pub exit : AtExit fz-start.ended lifetimes
  pub of_mode : args.0 ≡ mode
  pub at_entry : args.1.0.now ≡ before
  pub at_exit : exit.1.0.now ≡ after
  pub its_value : exit.1.1.0.now ≡ value
  pub post : fz-start-reads.Post lifetimes args returned exit

pub record FzTypeAllows (before : List ℕ) (key : ℕ) (returned value : ℕ) (after : List ℕ) : Type 0 where
  pub lifetimes : Lfts 2
  pub args : Args fz-type.signature lifetimes
  pub exit : AtExit fz-type.ended lifetimes
  pub at_entry : args.0.now ≡ before
  pub of_key : args.1.0 ≡ key
  pub at_exit : exit.0.now ≡ after
  pub its_value : exit.1.1.0.now ≡ value
  pub post : fz-type-reads.Post lifetimes args returned exit

pub record FzTypeAndShowAllows (before : List ℕ) (key : ℕ) (out : List ℕ) (returned did value : ℕ) (after out_after : List ℕ) : Type 0 where
  pub lifetimes : Lfts 4
  pub args : Args fz-type-and-show.signature lifetimes
  pub exit : AtExit fz-type-and-show.ended lifetimes
  pub at_entry : args.0.now ≡ before
  pub of_key : args.1.0 ≡ key
  pub out_at_entry : args.1.1.0.now ≡ out
  pub at_exit : exit.0.now ≡ after
  pub out_at_exit : exit.1.1.0.now ≡ out_after
  pub its_did : exit.1.1.1.0.now ≡ did
  pub its_value : exit.1.1.1.1.0.now ≡ value
  pub post : fz-type-and-show-reads.Post lifetimes args returned exit

pub record FzShowAllows (lent before : List ℕ) (returned value : ℕ) (after : List ℕ) : Type 0 where
  pub lifetimes : Lfts 3
  pub args : Args fz-show.signature lifetimes
  pub exit : AtExit fz-show.ended lifetimes
  pub of_word : args.0.now ≡ lent
  pub at_entry : args.1.0.now ≡ before
  pub at_exit : exit.1.0.now ≡ after
  pub its_value : exit.1.1.0.now ≡ value
  pub post : fz-show-reads.Post lifetimes args returned exit

pub record FzVerdictAllows (lent : List ℕ) (returned value : ℕ) : Type 0 where
  pub lifetimes : Lfts 2
  pub args : Args fz-verdict.signature lifetimes
  pub exit : AtExit fz-verdict.ended lifetimes
  pub of_word : args.0.now ≡ lent
  pub its_value : exit.1.0.now ≡ value
  pub post : fz-verdict-reads.Post lifetimes args returned exit

pub record FzPlaceAllows (lent : List ℕ) (returned value : ℕ) : Type 0 where
  pub lifetimes : Lfts 2
  pub args : Args fz-place.signature lifetimes
  pub exit : AtExit fz-place.ended lifetimes
  pub of_word : args.0.now ≡ lent
  pub its_value : exit.1.0.now ≡ value
  pub post : fz-place-reads.Post lifetimes args returned exit

pub record FzDecisionAllows (lent : List ℕ) (returned value : ℕ) : Type 0 where
  pub lifetimes : Lfts 2
  pub args : Args fz-decision.signature lifetimes
  pub exit : AtExit fz-decision.ended lifetimes
  pub of_word : args.0.now ≡ lent
  pub its_value : exit.1.0.now ≡ value
  pub post : fz-decision-reads.Post lifetimes args returned exit

pub record FzCommitAllows (mode : ℕ) (keys text : List ℕ) (returned value : ℕ) : Type 0 where
  pub lifetimes : Lfts 3
  pub args : Args fz-commit.signature lifetimes
  pub exit : AtExit fz-commit.ended lifetimes
  pub of_mode : args.0 ≡ mode
  pub of_keys : args.1.0.now ≡ keys
  pub of_text : args.1.1.0.now ≡ text
  pub its_value : exit.1.1.1.0.now ≡ value
  pub post : fz-commit-reads.Post lifetimes args returned exit

pub record FzSpellAllows (mode : ℕ) (text before : List ℕ) (returned value : ℕ) (after : List ℕ) : Type 0 where
  pub lifetimes : Lfts 3
  pub args : Args fz-spell.signature lifetimes
  pub exit : AtExit fz-spell.ended lifetimes
  pub of_mode : args.0 ≡ mode
  pub of_text : args.1.0.now ≡ text
  pub at_entry : args.1.1.0.now ≡ before
  pub at_exit : exit.1.1.0.now ≡ after
  pub its_value : exit.1.1.1.0.now ≡ value
  pub post : fz-spell-reads.Post lifetimes args returned exit

-- A call on lent bytes: where they are no record it is refusal 8 with 0, else it is answered or refused by the table.
pub record OnBytes {R : Type 0} (is_record : Bool) (c : Call) (came_back answer : R) (refused : Refusal → R) : Type 0 where
  pub no_record : T (not is_record) → came_back ≡ refused (record { number = 8; value = 0 })
  pub answers : T is_record → NoneHolds (table c) → came_back ≡ answer
  pub refuses : T is_record → (x : Refusal) → FirstOf (table c) x → came_back ≡ refused x

-- a key typed and the word shown, as one call: a record, a key, and an output for the text after it
abbrev pub press_call : Word → ℕ → List ℕ → Call
press_call w k out =
    record {
      record? = Some w;
      mode? = None;
      keys? = Some (record { mode = w.mode; already = w.typed; bytes = k ∷ [] });
      text? = None;
      room? = Some (record { needed = length (shown (type (word_of w) k).state); there = length out });
    }

-- Each call returns 0 and its value, or the refusal's number and value; after a refusal every lent byte is as it was.
pub record BoxAnswers : Type 0 where
  -- a buffer of another length than a record's cannot take one
  pub starting : (mode : ℕ) (before after : List ℕ) (r v : ℕ) → FzStartAllows mode before r v after →
      OnBytes {R = ℕ × ℕ × List ℕ} (is_long before) (start_call mode) (r, v, after) (0, 0, as_bytes (new_word mode)) (λ x. (x.number, x.value, before))
  pub typing : (before after : List ℕ) (key r v : ℕ) → FzTypeAllows before key r v after →
      OnBytes {R = ℕ × ℕ × List ℕ} (is_record before) (step_call (held before) key) (r, v, after)
      (0, in_one (outcome_numbers (outcome_of (key_does (word_of (held before)) key))), as_bytes (holding (held before) (type (word_of (held before)) key))) (λ x. (x.number, x.value, before))
  -- the key typed and the word shown: what the key did, and the bytes of text; refused, neither is done
  pub pressing : (before out after out_after : List ℕ) (key r d v : ℕ) → FzTypeAndShowAllows before key out r d v after out_after →
      OnBytes {R = ℕ × ℕ × ℕ × List ℕ × List ℕ} (is_record before) (press_call (held before) key out) (r, d, v, after, out_after) (
        0,
        in_one (outcome_numbers (outcome_of (key_does (word_of (held before)) key))),
        length (shown (type (word_of (held before)) key).state),
        as_bytes (holding (held before) (type (word_of (held before)) key)),
        at_front (shown (type (word_of (held before)) key).state) out,
      )
      (λ x. (x.number, 0, x.value, before, out))
  pub showing : (lent before after : List ℕ) (r v : ℕ) → FzShowAllows lent before r v after →
      OnBytes {R = ℕ × ℕ × List ℕ} (is_record lent) (show_call (held lent) before) (r, v, after)
      (0, length (shown (word_of (held lent)).state), at_front (shown (word_of (held lent)).state) before) (λ x. (x.number, x.value, before))
  pub judging : (lent : List ℕ) (r v : ℕ) → FzVerdictAllows lent r v →
      OnBytes {R = ℕ × ℕ} (is_record lent) (word_call (held lent)) (r, v) (0, verdict (word_of (held lent)).state.letters (word_of (held lent)).state.tone) (λ x. (x.number, x.value))
  pub placing : (lent : List ℕ) (r v : ℕ) → FzPlaceAllows lent r v →
      OnBytes {R = ℕ × ℕ} (is_record lent) (word_call (held lent)) (r, v) (0, placed (place_numbers (tone_place (word_of (held lent)).state.letters (word_of (held lent)).state.tone))) (λ x. (x.number, x.value))
  pub deciding : (lent : List ℕ) (r v : ℕ) → FzDecisionAllows lent r v →
      OnBytes {R = ℕ × ℕ} (is_record lent) (word_call (held lent)) (r, v) (0, decision_number (decision (word_of (held lent)))) (λ x. (x.number, x.value))
  pub committing : (mode : ℕ) (keys text : List ℕ) (r v : ℕ) → FzCommitAllows mode keys text r v →
      OnBytes {R = ℕ × ℕ} true (commit_call mode keys text) (r, v) (0, decision_number (decision (typed mode keys))) (λ x. (x.number, x.value))
  pub spelling : (mode : ℕ) (text before after : List ℕ) (r v : ℕ) → FzSpellAllows mode text before r v after →
      OnBytes {R = ℕ × ℕ × List ℕ} true (spell_call mode text before) (r, v, after) (0, length (keys_of mode (read text)), at_front (keys_of mode (read text)) before) (λ x. (x.number, x.value, before))

-- Any two results that a contract allows at the same arguments are equal, with the value and the lent bytes.
pub record BoxTight : Type 0 where
  pub starting : (mode : ℕ) (before after after' : List ℕ) (r r' v v' : ℕ) → FzStartAllows mode before r v after → FzStartAllows mode before r' v' after' → (r ≡ r') × (v ≡ v') × (after ≡ after')
  pub typing : (before after after' : List ℕ) (key r r' v v' : ℕ) → FzTypeAllows before key r v after → FzTypeAllows before key r' v' after' → (r ≡ r') × (v ≡ v') × (after ≡ after')
  pub pressing : (before out after after' out_after out_after' : List ℕ) (key r r' d d' v v' : ℕ) → FzTypeAndShowAllows before key out r d v after out_after → FzTypeAndShowAllows before key out r' d' v' after' out_after' →
      (r ≡ r') × (d ≡ d') × (v ≡ v') × (after ≡ after') × (out_after ≡ out_after')
  pub showing : (lent before after after' : List ℕ) (r r' v v' : ℕ) → FzShowAllows lent before r v after → FzShowAllows lent before r' v' after' → (r ≡ r') × (v ≡ v') × (after ≡ after')
  pub judging : (lent : List ℕ) (r r' v v' : ℕ) → FzVerdictAllows lent r v → FzVerdictAllows lent r' v' → (r ≡ r') × (v ≡ v')
  pub placing : (lent : List ℕ) (r r' v v' : ℕ) → FzPlaceAllows lent r v → FzPlaceAllows lent r' v' → (r ≡ r') × (v ≡ v')
  pub deciding : (lent : List ℕ) (r r' v v' : ℕ) → FzDecisionAllows lent r v → FzDecisionAllows lent r' v' → (r ≡ r') × (v ≡ v')
  pub committing : (mode : ℕ) (keys text : List ℕ) (r r' v v' : ℕ) → FzCommitAllows mode keys text r v → FzCommitAllows mode keys text r' v' → (r ≡ r') × (v ≡ v')
  pub spelling : (mode : ℕ) (text before after after' : List ℕ) (r r' v v' : ℕ) → FzSpellAllows mode text before r v after → FzSpellAllows mode text before r' v' after' → (r ≡ r') × (v ≡ v') × (after ≡ after')

-- And none is empty.
pub record BoxPossible : Type 0 where
  pub starting : (mode : ℕ) (before : List ℕ) → (r : ℕ) × (v : ℕ) × (after : List ℕ) × FzStartAllows mode before r v after
  pub typing : (before : List ℕ) (key : ℕ) → (r : ℕ) × (v : ℕ) × (after : List ℕ) × FzTypeAllows before key r v after
  pub pressing : (before : List ℕ) (key : ℕ) (out : List ℕ) → (r : ℕ) × (d : ℕ) × (v : ℕ) × (after : List ℕ) × (out_after : List ℕ) × FzTypeAndShowAllows before key out r d v after out_after
  pub showing : (lent before : List ℕ) → (r : ℕ) × (v : ℕ) × (after : List ℕ) × FzShowAllows lent before r v after
  pub judging : (lent : List ℕ) → (r : ℕ) × (v : ℕ) × FzVerdictAllows lent r v
  pub placing : (lent : List ℕ) → (r : ℕ) × (v : ℕ) × FzPlaceAllows lent r v
  pub deciding : (lent : List ℕ) → (r : ℕ) × (v : ℕ) × FzDecisionAllows lent r v
  pub committing : (mode : ℕ) (keys text : List ℕ) → (r : ℕ) × (v : ℕ) × FzCommitAllows mode keys text r v
  pub spelling : (mode : ℕ) (text before : List ℕ) → (r : ℕ) × (v : ℕ) × (after : List ℕ) × FzSpellAllows mode text before r v after
