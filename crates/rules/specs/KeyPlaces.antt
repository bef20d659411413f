-- 20 Which key made which letter (docs/RULES.md): places of two keys exchanged, and what the places of a typed word say.
use Rattle.std.specs.Prelude.{◌≡◌, true, false, List, map, ℕ, suc, ◌<◌, eqb, take, get_or}
use Rattle.rules.specs.Letters.{plain, no_tone}
use Rattle.rules.specs.TheWord.{Typed, no_key, letter, at_front}
use Rattle.rules.specs.KeyRoles.{letter_of_key, shaped}
use Rattle.rules.specs.declared.Word.{Word}

-- 20.1 The places of two keys that were typed one after the other, exchanged: the first becomes the second and the second
-- the first. Every other place, and no key, stays as it is.
abbrev pub exchanged : ℕ → ℕ → ℕ
exchanged n p = elim (eqb p n) [ true ↦ suc n | false ↦ elim (eqb p (suc n)) [ true ↦ n | false ↦ p ] ]

-- 20.2 A word with these places exchanged, for the keys that shaped its letters and the key that set its tone, and with
-- other keys kept; all else, the places of the keys that appended its letters too, stays as it is.
abbrev pub with_keys_exchanged : ℕ → Typed → List ℕ → Typed
with_keys_exchanged n z ks =
    record {
      mode = z.mode;
      state = z.state;
      places = record { appended_by = z.places.appended_by; shaped_by = map (exchanged n) z.places.shaped_by; toned_by = exchanged n z.places.toned_by };
      keys = ks;
      acted = z.acted;
      undone = z.undone;
      appended = z.appended;
    }

-- 20.3 The same of a record, whose array of keys is then another; places past the counts stay as they are.
abbrev pub with_exchanged : ℕ → Word → List ℕ → Word
with_exchanged n w keys =
    record {
      mode = w.mode;
      letters = w.letters;
      appended_by = w.appended_by;
      shaped_by = at_front (map (exchanged n) (take w.count w.shaped_by)) w.shaped_by;
      count = w.count;
      tone = w.tone;
      toned_by = exchanged n w.toned_by;
      closed = w.closed;
      keys = keys;
      typed = w.typed;
      acted = w.acted;
      undone = w.undone;
      appended = w.appended;
    }

-- 20.4 What is shown of the places of a typed word. The key at the place that appended a letter is that letter's key, in
-- its case: typed alone it is the letter without its shape.
pub record PlacesTold (w : Word) : Type 0 where
  pub own_key : (i : ℕ) → i < w.count → letter_of_key (get_or w.keys (get_or w.appended_by i 0) 0) ≡ shaped plain (letter (get_or w.letters i 0))
  -- 20.5 These places rise from letter to letter.
  pub rising : (i : ℕ) → suc i < w.count → get_or w.appended_by i 0 < get_or w.appended_by (suc i) 0
  -- 20.6 A letter has the place of a key that shaped it exactly where it is not plain.
  pub shaped_marked : (i : ℕ) → i < w.count → eqb (get_or w.shaped_by i 0) no_key ≡ eqb (letter (get_or w.letters i 0)).shape plain
  -- 20.7 The word has the place of a key that set its tone exactly where its tone is not 0.
  pub tone_marked : eqb w.toned_by no_key ≡ eqb w.tone no_tone
