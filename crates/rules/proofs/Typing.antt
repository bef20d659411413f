-- Typing a list is stepping its keys, one after the other, from a new word: at every prefix the records are the same, and in range.
use mathlib.Core.Path.{◌≡◌, refl, sym, ap, subst, ◌∙◌}
use mathlib.Core.Bool.{not}
use mathlib.Core.List.{List, [], ◌∷◌, ◌++◌}
use Prim.Native.Nat.{ℕ, ◌+◌, ◌≤◌}
use native.Mathlib.Omega.{arith}
use lib.Dec.{T, eqb, eqb→eq, lit≤}
use lib.ListN.{length, length-append}
use lib.Ieee.Fits.{and_l, and_r}
use Rattle.rules.specs.Letters.{telex, vni}
use Rattle.rules.specs.TheWord.{Typed, most_keys, new_word, word_of, holding}
use Rattle.rules.specs.KeyRoles.{is_key, key_does, type, type_list}
use Rattle.rules.specs.Refusals.{all, is_mode, out_of_range}
use Rattle.rules.specs.WhatComesBack.{step, typed}
use Rattle.rules.specs.declared.Word.{Word}
use Rattle.rules.specs.declared.Step.{Step}
use Rattle.rules.proofs.Tests.{either}
use Rattle.rules.specs.LettersOfAMode.{no_letters}
use Rattle.rules.proofs.StaysInRange.{Whole, StateFine, Next, Abreast, next, no_shorter, abreast_next, step_in_range}
use Rattle.rules.proofs.Records.{word_held, held_twice, accepted}

-- a record in range that holds this word
pub record Held (n : Word) (z : Typed) : Type 0 where
  pub range : T (not (out_of_range (holding n z)))
  pub whole : Whole (holding n z)
  pub fine : StateFine z.mode z.state
  pub abreast : Abreast z

-- one key more
module _ (n : Word) (z : Typed) (k : ℕ) (held : Held n z) (room : length z.keys + 1 ≤ most_keys) (key : T (is_key z.mode k)) where
  left : Next z.mode z.state (key_does z k)
  left = next z k key held.fine

  pub steps : (step (holding n z) k).word ≡ holding n (type z k)
  steps =
      ap (λ (s : Step). s.word) (accepted (holding n z) k held.range room key) ∙
      ap (λ (y : Typed). holding (holding n z) (type y k)) (word_held n z held.fine.letters held.abreast) ∙
      held_twice n z (type z k) held.abreast (abreast_next z k left held.abreast) (no_shorter left) (simp (length-append z.keys (k ∷ [])) (omega arith))

  pub still_held : Held n (type z k)
  still_held =
      let (range, whole) = step_in_range (holding n z) k held.whole held.range in
      record { range = subst (λ (w : Word). T (not (out_of_range w))) steps range; whole = subst Whole steps whole; fine = left.fine; abreast = abreast_next z k left held.abreast }

-- a new word
pub of_modes : (P : ℕ → Type 0) → P telex → P vni → (m : ℕ) → T (is_mode m) → P m
of_modes P p q m = either (eqb m telex) (eqb m vni) (λ t. subst P (sym (eqb→eq m telex t)) p) (λ t. subst P (sym (eqb→eq m vni t)) q)

pub new_held : (m : ℕ) → T (is_mode m) → Held (new_word m) (word_of (new_word m))
unfolding out_of_range
new_held =
    of_modes (λ m. Held (new_word m) (word_of (new_word m)))
    (record { range = tt; whole = record { letters = refl; by = refl; shaped_by = refl; keys = refl }; fine = record { letters = no_letters; tone = lit≤ tt }; abreast = record { by = refl; shaped_by = refl } })
    (record { range = tt; whole = record { letters = refl; by = refl; shaped_by = refl; keys = refl }; fine = record { letters = no_letters; tone = lit≤ tt }; abreast = record { by = refl; shaped_by = refl } })

-- a list of keys
pub kept_mode : (z : Typed) (ks : List ℕ) → (type_list z ks).mode ≡ z.mode
kept_mode z [] = refl
kept_mode z (k ∷ ks) = kept_mode (type z k) ks

pub kept_keys : (z : Typed) (ks : List ℕ) → length (type_list z ks).keys ≡ length z.keys + length ks
kept_keys z [] = omega arith
kept_keys z (k ∷ ks) = kept_keys (type z k) ks ∙ simp length-append (omega arith)

pub type_append : (z : Typed) (ks ls : List ℕ) → type_list z (ks ++ ls) ≡ type_list (type_list z ks) ls
type_append z [] ls = refl
type_append z (k ∷ ks) ls = type_append (type z k) ks ls

pub list_held : (n : Word) (z : Typed) (ks : List ℕ) → Held n z → length z.keys + length ks ≤ most_keys → T (all (is_key z.mode) ks) → Held n (type_list z ks)
list_held n z [] h r t = h
list_held n z (k ∷ ks) h r t =
    list_held n (type z k) ks (still_held n z k h (omega arith) (and_l (is_key z.mode k) (all (is_key z.mode) ks) t)) (simp length-append (omega arith))
    (and_r (is_key z.mode k) (all (is_key z.mode) ks) t)

-- stepping the keys of a list, one after the other
abbrev pub stepping : Word → List ℕ → Word
stepping w [] = w
stepping w (k ∷ ks) = stepping (step w k).word ks

steps_all : (n : Word) (z : Typed) (ks : List ℕ) → Held n z → length z.keys + length ks ≤ most_keys → T (all (is_key z.mode) ks) → stepping (holding n z) ks ≡ holding n (type_list z ks)
steps_all n z [] h r t = refl
steps_all n z (k ∷ ks) h r t =
    let key = and_l (is_key z.mode k) (all (is_key z.mode) ks) t in
    ap (λ (w : Word). stepping w ks) (steps n z k h (omega arith) key) ∙
    steps_all n (type z k) ks (still_held n z k h (omega arith) key) (simp length-append (omega arith)) (and_r (is_key z.mode k) (all (is_key z.mode) ks) t)

pub typing_is_stepping : (m : ℕ) (ks : List ℕ) → T (is_mode m) → length ks ≤ most_keys → T (all (is_key m) ks) → stepping (new_word m) ks ≡ holding (new_word m) (typed m ks)
typing_is_stepping m ks t r a = steps_all (new_word m) (word_of (new_word m)) ks (new_held m t) (omega arith) a
