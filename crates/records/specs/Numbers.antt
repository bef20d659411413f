-- A record's own numbers, and the conditions of refusal 8 that are on them, and those on the places of keys.
use Rattle.std.specs.Prelude.{Bool, true, false, not, List, [], ◌∷◌, ◌++◌, ℕ, ◌+◌, eqb, take}
use Rattle.rules.specs.TheWord.{no_key}
use Rattle.rules.specs.Refusals.{all, any, count_faults, tone_and_mode_faults, is_place, is_place_or_none}
use Rattle.rules.specs.declared.Word.{Word}
use Rattle.records.specs.declared.Numbers.{Numbers}

abbrev pub numbers_of : Word → Numbers
numbers_of w =
    record { count = w.count; tone = w.tone; closed = w.closed; typed = w.typed; acted = w.acted; undone = w.undone; appended = w.appended }

-- the record that a mode, letters, places of keys, keys and numbers are
abbrev pub word_in : ℕ → List ℕ → List ℕ → List ℕ → List ℕ → ℕ → Numbers → Word
word_in mode letters appended_by shaped_by keys toned_by n =
    record {
      mode = mode;
      letters = letters;
      appended_by = appended_by;
      shaped_by = shaped_by;
      count = n.count;
      tone = n.tone;
      toned_by = toned_by;
      closed = n.closed;
      keys = keys;
      typed = n.typed;
      acted = n.acted;
      undone = n.undone;
      appended = n.appended;
    }

abbrev pub numbers_wrong : Word → Bool
numbers_wrong w = any (count_faults w ++ tone_and_mode_faults w)

-- how many keys must be typed for a place to be that of one of them
abbrev pub keys_for : ℕ → ℕ
keys_for p = elim (eqb p no_key) [ true ↦ 0 | false ↦ p + 1 ]

abbrev pub places_wrong : Word → Bool
places_wrong w =
    any (not (all (is_place w.typed) (take w.count w.appended_by)) ∷ not (all (is_place_or_none w.typed) (take w.count w.shaped_by)) ∷ not (is_place_or_none w.typed w.toned_by) ∷ [])
