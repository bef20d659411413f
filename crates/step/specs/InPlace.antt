-- A word that is lent as its record's bytes: what the step answers, and the bytes then. Behind it, for private contracts, what is stored where.
use Rattle.std.specs.Prelude.{◌≡◌, Bool, true, false, List, ℕ, ◌<◌, leb, length, set, Result, Ok, Err}
use Rattle.rules.specs.TheWord.{most_keys}
use Rattle.rules.specs.KeyRoles.{is_key}
use Rattle.rules.specs.Refusals.{out_of_range}
use Rattle.rules.specs.WhatComesBack.{step}
use Rattle.rules.specs.declared.Word.{Word}
use Rattle.rules.specs.declared.Outcome.{Outcome}
use Rattle.rules.specs.declared.Step.{Step}
use Rattle.layout.specs.Places.{mark_byte, bytes_with, byte, part, record_written, is_record, held}
use Rattle.records.specs.Numbers.{word_in}
use Rattle.records.specs.declared.Numbers.{Numbers}
use Rattle.rules.specs.declared.Refusal.{Refusal}

-- the step's answer, and the lent bytes when it returns
pub record SteppedAt : Type 0 where
  pub answer : Result Outcome Refusal
  pub bytes : List ℕ

abbrev pub refused_with : ℕ → ℕ → Result Outcome Refusal
refused_with number value = Err (record { number = number; value = value })

-- the new word's bytes where the key was taken; where it was refused they are as they were
abbrev pub bytes_after : Result Outcome Refusal → Word → List ℕ → List ℕ
bytes_after (Ok o) new old = record_written new old
bytes_after (Err r) new old = old

abbrev pub leaving : Step → List ℕ → SteppedAt
leaving s old = record { answer = s.answer; bytes = bytes_after s.answer s.word old }

-- bytes that are no record are refusal 8 with 0
abbrev pub step_if : Bool → Word → ℕ → List ℕ → SteppedAt
step_if true w key old = leaving (step w key) old
step_if false w key old = record { answer = refused_with 8 0; bytes = old }

unfoldable pub step_at : List ℕ → ℕ → SteppedAt
step_at lent key = step_if (is_record lent) (held lent) key lent

-- a key that is not taken: 2 where the word is full, else 3
abbrev pub not_taken : ℕ → Result Outcome Refusal
not_taken typed = elim (leb most_keys typed) [ true ↦ refused_with 2 most_keys | false ↦ refused_with 3 typed ]

-- the word that bytes are, with the letters, mode and numbers taken out of them
abbrev pub held_in : List ℕ → List ℕ → ℕ → Numbers → Word
held_in bs letters mode n = word_in mode letters (part 104 32 bs) (part 136 32 bs) (part 8 32 bs) (byte 168 bs) n

-- bytes of a word in range that has room for a key which its mode allows
pub record ReadyAt (bs letters : List ℕ) (mode : ℕ) (n : Numbers) (key : ℕ) : Type 0 where
  pub long : length bs ≡ 169
  pub places : length letters ≡ most_keys
  pub held : bs ≡ bytes_with (part 40 64 bs) (held_in bs letters mode n)
  pub range : out_of_range (held_in bs letters mode n) ≡ false
  pub room : n.typed < most_keys
  pub allowed : is_key mode key ≡ true

-- the key typed: the letters are those of the new word, and all else of it stands in the bytes
pub record TypedAt (s : Step) (old : List ℕ) (o : Outcome) (letters new : List ℕ) : Type 0 where
  pub told : Ok o ≡ s.answer
  pub lettered : letters ≡ s.word.letters
  pub stored : new ≡ bytes_with (part 40 64 old) s.word

-- the numbers at the front of a record's bytes, behind the mode
abbrev pub numbers_put : List ℕ → Numbers → List ℕ
numbers_put bs n =
    set (set (set (set (set (set (set bs 1 n.count) 2 n.tone) 3 (mark_byte n.closed)) 4 n.typed) 5 n.acted) 6 n.undone) 7 n.appended
