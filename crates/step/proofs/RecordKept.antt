-- A key kept in a record's bytes where they lie: what is stored there, part by part, is the record of the step, its letters' bytes as they stood.
use mathlib.Core.Path.{◌≡◌, sym, ap, subst, ◌∙◌}
use mathlib.Core.List.{List}
use Prim.Native.Nat.{ℕ, ◌+◌, ◌<◌}
use native.Mathlib.Omega.{arith}
use borrow.Rule.Slice.PartMut.{put_mid}
use lib.ListN.{length, set, length-set}
use Rattle.rules.specs.TheWord.{word_of}
use Rattle.rules.specs.KeyRoles.{key_does}
use Rattle.rules.specs.WhatComesBack.{step}
use Rattle.rules.specs.declared.Word.{Word}
use Rattle.rules.specs.declared.Step.{Step}
use Rattle.rules.proofs.Range.{InRange}
use Rattle.rules.proofs.StaysInRange.{Whole}
use Rattle.layout.specs.Places.{bytes_with, byte, part}
use Rattle.layout.proofs.Answers.{length_part}
use Rattle.layout.proofs.InPlace.{with_keys, with_by, with_shaped, with_toned, long_bytes, by_part, shaped_part, toned_byte, key_put, by_put, shaped_put, toned_put}
use Rattle.records.specs.declared.Numbers.{Numbers}
use Rattle.step.specs.declared.Counts.{Counts}
use Rattle.step.specs.declared.Done as Answer
use Rattle.step.specs.LentLetters.{DoesAsRuled, TouchesIn, counted_in, by_then, shaped_then, toned_then}
use Rattle.step.specs.InPlace.{held_in, ReadyAt, TypedAt, numbers_put}
use Rattle.step.proofs.KeysPut.{length_by_then, length_shaped_then}
use Rattle.step.proofs.Steps.{in_range_of, touches_in, kept, accepted}

module _ (bs letters : List ℕ) (mode : ℕ) (n : Numbers) (key : ℕ) (ready : ReadyAt bs letters mode n key) where
  abbrev w : Word
  w = held_in bs letters mode n

  pub range : InRange w
  range = in_range_of w ready.range

  pub whole : Whole w
  whole =
      record {
        letters = ready.places;
        by = length_part 104 32 bs (omega (arith, ready.long));
        shaped_by = length_part 136 32 bs (omega (arith, ready.long));
        keys = length_part 8 32 bs (omega (arith, ready.long));
      }

  -- the letters' bytes as they stand
  abbrev ls : List ℕ
  ls = part 40 64 bs

  long : length ls ≡ 64
  long = length_part 40 64 bs (omega (arith, ready.long))

  -- with the key
  abbrev pub keyed : List ℕ
  keyed = set bs (8 + n.typed) key

  abbrev keys : List ℕ
  keys = set w.keys n.typed key

  whole_keyed : Whole (with_keys w keys)
  whole_keyed = record { letters = whole.letters; by = whole.by; shaped_by = whole.shaped_by; keys = length-set w.keys n.typed key ∙ whole.keys }

  is_keyed : keyed ≡ bytes_with ls (with_keys w keys)
  is_keyed = ap (λ (l : List ℕ). set l (8 + n.typed) key) ready.held ∙ key_put ls long w whole n.typed key ready.room

  pub long_keyed : length keyed ≡ 169
  long_keyed = length-set bs (8 + n.typed) key ∙ ready.long

  pub by_keyed : part 104 32 keyed ≡ w.appended_by
  by_keyed = ap (part 104 32) is_keyed ∙ by_part ls long (with_keys w keys) whole_keyed

  module _ {x : Answer.Done} {l : List ℕ} (d : DoesAsRuled (key_does (word_of w) key) letters x l) where
    pub can_append : n.count < length (part 104 32 keyed)
    can_append = subst (λ (m : List ℕ). n.count < length m) (sym by_keyed) (touches_in w key range ready.room whole d).0

    -- with the place of the key that appended a letter
    module _ {by : List ℕ} (b : by ≡ by_then (part 104 32 keyed) n.count n.typed x.outcome) where
      abbrev placed : List ℕ
      placed = put_mid 104 32 keyed by

      abbrev w_placed : Word
      w_placed = with_by (with_keys w keys) by

      by_then_law : by ≡ by_then w.appended_by n.count n.typed x.outcome
      by_then_law = b ∙ ap (λ (m : List ℕ). by_then m n.count n.typed x.outcome) by_keyed

      whole_placed : Whole w_placed
      whole_placed =
          record {
            letters = whole.letters;
            by = ap (λ (m : List ℕ). length m) by_then_law ∙ length_by_then w.appended_by n.count n.typed x.outcome ∙ whole.by;
            shaped_by = whole.shaped_by;
            keys = whole_keyed.keys;
          }

      is_placed : placed ≡ bytes_with ls w_placed
      is_placed = ap (λ (m : List ℕ). put_mid 104 32 m by) is_keyed ∙ by_put ls long (with_keys w keys) whole_keyed by

      pub long_placed : length placed ≡ 169
      long_placed = ap (λ (m : List ℕ). length m) is_placed ∙ long_bytes ls long w_placed whole_placed

      pub shaped_placed : part 136 32 placed ≡ w.shaped_by
      shaped_placed = ap (part 136 32) is_placed ∙ shaped_part ls long w_placed whole_placed

      pub can_shape : (n.count < length (part 136 32 placed)) × TouchesIn (length (part 136 32 placed)) x.touched
      can_shape =
          let t = touches_in w key range ready.room whole d in
          (subst (λ (m : List ℕ). n.count < length m) (sym shaped_placed) t.1, subst (λ (m : List ℕ). TouchesIn (length m) x.touched) (sym shaped_placed) t.2)

      -- with the places of the keys that shaped the letters
      module _ {shaped : List ℕ} (s : shaped ≡ shaped_then (part 136 32 placed) n.count n.typed x.touched x.outcome) where
        abbrev shaped_in : List ℕ
        shaped_in = put_mid 136 32 placed shaped

        abbrev w_shaped : Word
        w_shaped = with_shaped w_placed shaped

        shaped_then_law : shaped ≡ shaped_then w.shaped_by n.count n.typed x.touched x.outcome
        shaped_then_law = s ∙ ap (λ (m : List ℕ). shaped_then m n.count n.typed x.touched x.outcome) shaped_placed

        whole_shaped : Whole w_shaped
        whole_shaped =
            record {
              letters = whole.letters;
              by = whole_placed.by;
              shaped_by = ap (λ (m : List ℕ). length m) shaped_then_law ∙ length_shaped_then w.shaped_by n.count n.typed x.touched x.outcome ∙ whole.shaped_by;
              keys = whole_keyed.keys;
            }

        is_shaped : shaped_in ≡ bytes_with ls w_shaped
        is_shaped = ap (λ (m : List ℕ). put_mid 136 32 m shaped) is_placed ∙ shaped_put ls long w_placed whole_placed shaped

        pub long_shaped : length shaped_in ≡ 169
        long_shaped = ap (λ (m : List ℕ). length m) is_shaped ∙ long_bytes ls long w_shaped whole_shaped

        toned_shaped : byte 168 shaped_in ≡ w.toned_by
        toned_shaped = ap (byte 168) is_shaped ∙ toned_byte ls long w_shaped whole_shaped

        -- with the place of the tone's key, and the numbers
        pub all_kept : {t : ℕ} {c : Counts} {new : List ℕ} → t ≡ toned_then n.tone x.rest.tone n.typed (byte 168 shaped_in) →
            c ≡ counted_in (record { acted = n.acted; undone = n.undone; appended = n.appended }) x.outcome →
            new ≡ numbers_put (set shaped_in 168 t)
            (record { count = x.rest.count; tone = x.rest.tone; closed = x.rest.closed; typed = n.typed + 1; acted = c.acted; undone = c.undone; appended = c.appended }) →
            TypedAt (step w key) bs x.outcome l new
        all_kept {t} {c} {new} tn cn e =
            let toned_then_law = tn ∙ ap (toned_then n.tone x.rest.tone n.typed) toned_shaped in
            let is_step = kept w key range ready.room whole d cn by_then_law shaped_then_law toned_then_law ∙ accepted w key ready.range ready.room ready.allowed in
            let is_toned : set shaped_in 168 t ≡ bytes_with ls (with_toned w_shaped t) = ap (λ (m : List ℕ). set m 168 t) is_shaped ∙ toned_put ls long w_shaped whole_shaped t in
            let now : Numbers = record { count = x.rest.count; tone = x.rest.tone; closed = x.rest.closed; typed = n.typed + 1; acted = c.acted; undone = c.undone; appended = c.appended } in
            record {
              told = ap (λ (z : Step). z.answer) is_step;
              lettered = ap (λ (z : Step). z.word.letters) is_step;
              stored = e ∙ ap (λ (m : List ℕ). numbers_put m now) is_toned ∙ ap (λ (z : Step). bytes_with ls z.word) is_step;
            }
