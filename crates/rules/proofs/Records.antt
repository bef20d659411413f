-- A record that holds a word is read as that word; a step that is not refused holds the word with the key typed.
use Rattle.std.specs.Prelude.{Ok}
use mathlib.Core.Path.{◌≡◌, refl, sym, ap, ◌∙◌}
use mathlib.Core.Bool.{true, not, ◌&&◌}
use mathlib.Core.List.{List, ◌++◌, map}
use Prim.Native.Nat.{ℕ, ◌+◌, ◌-◌, ◌≤◌}
use native.Mathlib.Omega.{arith}
use lib.Dec.{T}
use lib.ListN.{length, take, drop, length-map}
use lib.Seq.{drop-append-add, drop-drop}
use lib.Ieee.Fits.{and_i}
use Rattle.rules.specs.TheWord.{Typed, most_keys, letter, number, word_of, at_front, holding, outcome_of}
use Rattle.rules.specs.KeyRoles.{is_key, key_does, type}
use Rattle.rules.specs.Refusals.{out_of_range, no_rows, not_this}
use Rattle.rules.specs.WhatComesBack.{step_call, step_or, step}
use Rattle.rules.specs.declared.Word.{Word}
use Rattle.rules.specs.LettersOfAMode.{AllFine}
use Rattle.rules.proofs.Numbers.{letters_numbers}
use Rattle.rules.proofs.Refused.{refusal_none}
use Rattle.rules.proofs.StaysInRange.{Abreast, read_front}
use Rattle.rules.proofs.Range.{not_over, twice}

-- the record with other arrays
abbrev pub with_arrays : Word → List ℕ → List ℕ → List ℕ → List ℕ → Word
with_arrays w ls ps ss ks =
    record {
      mode = w.mode;
      letters = ls;
      appended_by = ps;
      shaped_by = ss;
      count = w.count;
      tone = w.tone;
      toned_by = w.toned_by;
      closed = w.closed;
      keys = ks;
      typed = w.typed;
      acted = w.acted;
      undone = w.undone;
      appended = w.appended;
    }

-- what a record holds is read back
letters_held : (w : Word) (z : Typed) → AllFine z.mode z.state.letters → map letter (take (length z.state.letters) (at_front (map number z.state.letters) w.letters)) ≡ z.state.letters
letters_held w z f = ap (map letter) (read_front (map number z.state.letters) w.letters (length z.state.letters) (length-map z.state.letters number)) ∙ letters_numbers f

pub state_held : (w : Word) (z : Typed) → AllFine z.mode z.state.letters → (word_of (holding w z)).state ≡ z.state
state_held w z f = λ i. record { letters = letters_held w z f i; tone = z.state.tone; closed = z.state.closed }

pub word_held : (w : Word) (z : Typed) → AllFine z.mode z.state.letters → Abreast z → word_of (holding w z) ≡ z
word_held w z f a =
    let ks : take (length z.keys) (at_front z.keys w.keys) ≡ z.keys = read_front z.keys w.keys (length z.keys) refl in
    let ps = read_front z.places.appended_by w.appended_by (length z.state.letters) a.by in
    let ss = read_front z.places.shaped_by w.shaped_by (length z.state.letters) a.shaped_by in
    λ i. record {
      mode = z.mode;
      state = state_held w z f i;
      places = record { appended_by = ps i; shaped_by = ss i; toned_by = z.places.toned_by };
      keys = ks i;
      acted = z.acted;
      undone = z.undone;
      appended = z.appended;
    }

-- one held after another: what is longer in front covers what is shorter
pub front_front : (new mid old : List ℕ) → length mid ≤ length new → at_front new (at_front mid old) ≡ at_front new old
front_front new mid old h =
    let d = length new - length mid in
    let e : length new ≡ length mid + d = omega arith in
    ap (◌++◌ new) (ap (λ (n : ℕ). drop n (at_front mid old)) e ∙ drop-append-add mid (drop (length mid) old) d ∙ drop-drop d (length mid) old ∙ ap (λ (n : ℕ). drop n old) (sym e))

pub held_twice : (w : Word) (y z : Typed) → Abreast y → Abreast z → length y.state.letters ≤ length z.state.letters → length y.keys ≤ length z.keys → holding (holding w y) z ≡ holding w z
held_twice w y z a b l k =
    let ls = front_front (map number z.state.letters) (map number y.state.letters) w.letters (simp length-map l) in
    let ks = front_front z.keys y.keys w.keys k in
    let ps = front_front z.places.appended_by y.places.appended_by w.appended_by (omega (arith, a.by, b.by)) in
    let ss = front_front z.places.shaped_by y.places.shaped_by w.shaped_by (omega (arith, a.shaped_by, b.shaped_by)) in
    λ i. record {
      mode = z.mode;
      letters = ls i;
      appended_by = ps i;
      shaped_by = ss i;
      count = length z.state.letters;
      tone = z.state.tone;
      toned_by = z.places.toned_by;
      closed = z.state.closed;
      keys = ks i;
      typed = length z.keys;
      acted = z.acted;
      undone = z.undone;
      appended = z.appended;
    }

-- a step on a record in range, with room and an allowed key, is not refused
pub accepted : (w : Word) (k : ℕ) → T (not (out_of_range w)) → w.typed + 1 ≤ most_keys → T (is_key w.mode k) → step w k ≡ record { answer = Ok (outcome_of (key_does (word_of w) k)); word = holding w (type (word_of w) k) }
unfolding step
accepted w k range room key =
    ap (λ o. step_or o w k)
    ((refusal_none (step_call w k)).1
    (not_this range (not_this tt (not_this (not_over most_keys (w.typed + 1) room) (not_this tt
    (not_this (twice (is_key w.mode k && true) (and_i (is_key w.mode k) true key tt)) (not_this tt (not_this tt (not_this tt (not_this tt no_rows))))))))))
