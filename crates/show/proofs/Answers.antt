-- The answers of text and of show by their tests: refused, or the text put into the output.
use Rattle.std.specs.Prelude.{Ok, Err}
use mathlib.Core.Path.{◌≡◌, sym, ap, ◌∙◌}
use mathlib.Core.Bool.{Bool, true, false}
use mathlib.Core.List.{List, [], map}
use Prim.Native.Nat.{ℕ, ◌-◌, ◌≤◌, ◌<◌}
use native.Mathlib.Omega.{arith}
use borrow.Author.Tests.{lt-ltb, le-ltb}
use lib.ListN.{length, take, length-take}
use Rattle.rules.specs.TheWord.{letter, word_of, at_front, most_keys, most_bytes}
use Rattle.rules.specs.TonePlace.{tone_place}
use Rattle.rules.specs.CodePoints.{shown}
use Rattle.rules.specs.Refusals.{out_of_range, refusal}
use Rattle.rules.specs.WhatComesBack.{show}
use Rattle.rules.specs.declared.Word.{Word}
use Rattle.rules.proofs.StaysInRange.{read_front}
use Rattle.rules.proofs.Range.{few_letters}
use Rattle.output.specs.Front.{put}
use Rattle.show.specs.Filling.{text_of, room_text, text_out}
use Rattle.show.proofs.Fills.{three_each}
use Rattle.show.proofs.Texts.{text_of_law}

module _ (ns : List ℕ) (t : ℕ) (out : List ℕ) where
  pub too_many : most_keys < length ns → text_out ns t out ≡ record { answer = Err (record { number = 2; value = most_keys }); output = out }
  unfolding text_out
  too_many h = simp (lt-ltb most_keys (length ns) h)

  few_enough : length ns ≤ most_keys → text_out ns t out ≡ put (text_of ns t) out
  unfolding text_out
  few_enough h = simp (le-ltb most_keys (length ns) h)

  -- too many letters, or a short output
  pub none_made : most_keys < length ns → [] ≡ room_text ns t out
  unfolding room_text
  none_made h = rw (room_text, lt-ltb most_keys (length ns) h)

  module _ (few : length ns ≤ most_keys) where
    pub no_room : length out < most_bytes → [] ≡ room_text ns t out
    unfolding room_text
    no_room h = rw (room_text, le-ltb most_keys (length ns) few, lt-ltb (length out) most_bytes h)

    pub in_room : most_bytes ≤ length out → text_of ns t ≡ room_text ns t out
    unfolding room_text
    in_room h = rw (room_text, le-ltb most_keys (length ns) few, le-ltb (length out) most_bytes h)

    -- with room for any text it is made where it is put
    module _ (n : ℕ) (room : most_bytes ≤ length out) (many : n ≡ length (room_text ns t out)) where
      long : n ≡ length (text_of ns t)
      long = many ∙ ap length (sym (in_room room))

      pub at_most_96 : n ≤ most_bytes
      at_most_96 = omega (arith, long, three_each (tone_place (map letter ns) t) t 0 ns)

      pub made_there : (after : List ℕ) → after ≡ at_front (room_text ns t out) out → text_out ns t out ≡ record { answer = Ok n; output = after }
      unfolding put refusal
      made_there after b =
          let made = b ∙ ap (λ (l : List ℕ). at_front l out) (sym (in_room room)) in
          few_enough few ∙ simp (le-ltb (length out) (length (text_of ns t)) (omega (arith, room, long, at_most_96)), long, made)

-- else it is made in a buffer, and its front put
pub put_so : (ns : List ℕ) (t : ℕ) (out old buffer : List ℕ) (n : ℕ) → length ns ≤ most_keys → most_bytes ≤ length old → n ≡ length (room_text ns t old) → buffer ≡ at_front (room_text ns t old) old
    → put (take n buffer) out ≡ text_out ns t out
put_so ns t out old buffer n few room many b =
    ap (λ (l : List ℕ). put l out) (ap (take n) b ∙ read_front (room_text ns t old) old n (sym many) ∙ sym (in_room ns t old few room)) ∙ sym (few_enough ns t out few)

-- of a word, by what is answered on its range
module _ (w : Word) (out : List ℕ) {r : Bool} (asked : r ≡ out_of_range w) where
  pub refused : r ≡ true → show w out ≡ record { answer = Err (record { number = 8; value = 0 }); output = out }
  unfolding show refusal
  refused e = rw (sym asked, e)

  module _ (e : r ≡ false) where
    in_range : out_of_range w ≡ false
    in_range = sym asked ∙ e

    put_in : show w out ≡ put (shown (word_of w).state) out
    unfolding show put refusal
    put_in = rw in_range

    pub few : w.count ≤ most_keys
    few = few_letters w in_range

    pub shown_word : text_out (take w.count w.letters) w.tone out ≡ show w out
    shown_word =
        let short : length (take w.count w.letters) ≤ most_keys = simp length-take (omega (arith, few)) in
        few_enough (take w.count w.letters) w.tone out short ∙ ap (λ (l : List ℕ). put l out) (text_of_law w in_range) ∙ sym put_in

    -- the same of letters that are taken from the first on
    pub shown_so : text_out (take (w.count - 0) w.letters) w.tone out ≡ show w out
    shown_so = let m : w.count - 0 ≡ w.count = omega arith in ap (λ (n : ℕ). text_out (take n w.letters) w.tone out) m ∙ shown_word
