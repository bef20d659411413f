-- The word after each key: the statements of specs/EachKey.antt, by the laws on definitions and the contracts.
use Rattle.std.specs.Prelude.{Ok}
use mathlib.Core.Path.{◌≡◌, refl, sym, ap, subst, ◌∙◌}
use mathlib.Core.Bool.{Bool, false, not}
use mathlib.Core.List.{List, [], ◌∷◌, ◌++◌}
use Prim.Native.Nat.{ℕ, ◌+◌, ◌≤◌}
use native.Mathlib.Omega.{arith}
use borrow.Author.Tests.{le-ltb}
use lib.Dec.{T}
use lib.ListN.{length, length-append}
use lib.Ieee.Fits.{and_l, and_r, and_i}
use Rattle.rules.specs.TheWord.{State, Typed, most_keys, new_word, word_of, holding, outcome_of}
use Rattle.rules.specs.KeyRoles.{is_key, key_does}
use Rattle.rules.specs.TakingApart.{verdict}
use Rattle.rules.specs.TonePlace.{tone_place}
use Rattle.rules.specs.Decision.{decision}
use Rattle.rules.specs.Refusals.{all, is_mode, out_of_range, refusal}
use Rattle.rules.specs.WhatComesBack.{start, typed, type_all, Written}
use Rattle.rules.specs.declared.Word.{Word}
use Rattle.rules.specs.declared.Start.{Start}
use Rattle.rules.specs.declared.Step.{Step}
use Rattle.rules.specs.declared.TypeAll.{TypeAll}
use Rattle.rules.proofs.Tests.{is_true}
use Rattle.rules.proofs.Records.{accepted as not_refused}
use Rattle.rules.proofs.Typing.{kept_mode, kept_keys, stepping, typing_is_stepping}
use Rattle.rules.proofs.NotRefused.{finds, judges, decides, typed_in_range, typed_word}
use Rattle.rules.proofs.KeyPlaces.{typed_told}
use Rattle.rules.specs.KeyPlaces.{PlacesTold}
use Rattle.promises.specs.ContractsAllow.{StepAllows}
use Rattle.rules.specs.AnswersInNumbers.{answered, outcome_numbers, start_says, step_says, type_says, write_says, place_says, verdict_says, decision_says}
use Rattle.promises.specs.EachKey.{Stepped, no_key, key_and_more, AcceptedKeys, EveryPrefix, AsRuled, AfterEachKey, AfterTheList, AtEachKey}
use Rattle.promises.proofs.AsDefined.{started, stepped, typed_as, shown_answer, shown_output, placed, judged, decided}
use Rattle.promises.proofs.Alike.{writes_state}

front_allowed : (f : ℕ → Bool) (ks more : List ℕ) → T (all f (ks ++ more)) → T (all f ks)
front_allowed f [] more t = tt
front_allowed f (k ∷ ks) more t = and_i (f k) (all f ks) (and_l (f k) (all f (ks ++ more)) t) (front_allowed f ks more (and_r (f k) (all f (ks ++ more)) t))

pub every_prefix : EveryPrefix
every_prefix m ks more a = record { mode = a.mode; few = omega (arith, length-append ks more); keys = front_allowed (is_key m) ks more a.keys }

through : {w v : Word} {ks : List ℕ} → Stepped w ks v → stepping w ks ≡ v
through no_key = refl
through (key_and_more {ks = ks} a s) = ap (λ (r : Step). stepping r.word ks) (sym (stepped a)) ∙ through s

module _ (m : ℕ) (ks : List ℕ) (ok : AcceptedKeys m ks) where
  all_typed : type_all m ks ≡ record { answer = Ok tt; word = holding (new_word m) (typed m ks) }
  unfolding type_all refusal
  all_typed =
      let e = ap not (is_true (is_mode m) ok.mode) in
      let n = is_true (all (is_key m) ks) ok.keys in
      simp (e, le-ltb most_keys (0 + length ks) (omega (arith, ok.few)), n)

  pub accepted : (type_all m ks).answer ≡ Ok tt
  accepted = ap (λ (x : TypeAll). x.answer) all_typed

  all_started : start m ≡ record { answer = Ok tt; word = new_word m }
  unfolding refusal
  all_started = let e = ap not (is_true (is_mode m) ok.mode) in simp e

  one_more : (v : Word) → v ≡ holding (new_word m) (typed m ks) → T (not (out_of_range v)) → word_of v ≡ typed m ks → (k : ℕ) (r : Step) → length ks + 1 ≤ most_keys → T (is_key m k) → StepAllows v k r →
      step_says r.answer ≡ answered (outcome_numbers (outcome_of (key_does (typed m ks) k)))
  one_more v e range word_is k r room key a =
      let many : v.typed ≡ 0 + length ks = ap (λ (w : Word). w.typed) e ∙ kept_keys (word_of (new_word m)) ks in
      let mode_is : v.mode ≡ m = ap (λ (w : Word). w.mode) e ∙ kept_mode (word_of (new_word m)) ks in
      let f = not_refused v k range (omega arith) (subst (λ (n : ℕ). T (is_key n k)) (sym mode_is) key) in
      ap (λ (x : Step). step_says x.answer) (stepped a ∙ f) ∙ ap (λ (z : Typed). answered (outcome_numbers (outcome_of (key_does z k)))) word_is

  -- the word that typing them gives, and what is answered of it
  ruled : (v : Word) → v ≡ holding (new_word m) (typed m ks) → AsRuled m ks v
  ruled v e =
      let as_typed : v ≡ (type_all m ks).word = e ∙ sym (ap (λ (x : TypeAll). x.word) all_typed) in
      let range : out_of_range v ≡ false = ap out_of_range as_typed ∙ typed_in_range m ks accepted in
      let in_range : T (not (out_of_range v)) = subst (λ (b : Bool). T (not b)) (sym range) tt in
      let word_is : word_of v ≡ typed m ks = ap word_of as_typed ∙ typed_word m ks accepted in
      let state_is : (word_of v).state ≡ (typed m ks).state = ap (λ (z : Typed). z.state) word_is in
      record {
        word = e;
        holds = word_is;
        text = λ {before} room a.
            let f = writes_state v range (typed m ks).state state_is before room in
            (ap write_says (shown_answer a ∙ ap (λ (x : Written). x.answer) f), shown_output a ∙ ap (λ (x : Written). x.output) f);
        places = subst PlacesTold (sym as_typed) (typed_told m ks accepted);
        place = λ a. ap place_says (placed a ∙ finds v range ∙ ap (λ (z : State). Ok (tone_place z.letters z.tone)) state_is);
        judgement = λ a. ap verdict_says (judged a ∙ judges v range ∙ ap (λ (z : State). Ok (verdict z.letters z.tone)) state_is);
        keep_or_restore = λ a. ap decision_says (decided a ∙ decides v range ∙ ap (λ (z : Typed). Ok (decision z)) word_is);
        next = λ {k} {r} room key a. one_more v e in_range word_is k r room key a;
      }

pub after_each_key : AfterEachKey
after_each_key m ks new v ok s p =
    let e = started s ∙ all_started m ks ok in
    let n : new.word ≡ new_word m = ap (λ (x : Start). x.word) e in
    (ap (λ (x : Start). start_says x.answer) e, ruled m ks ok v (sym (through p) ∙ ap (λ (w : Word). stepping w ks) n ∙ typing_is_stepping m ks ok.mode ok.few ok.keys))

pub after_the_list : AfterTheList
after_the_list m ks r ok t =
    let e = typed_as t ∙ all_typed m ks ok in
    (ap (λ (x : TypeAll). type_says x.answer) e, ruled m ks ok r.word (ap (λ (x : TypeAll). x.word) e))

pub at_each_key : AtEachKey
at_each_key m ks new v r ok s p t =
    let (_, stepped-word) = after_each_key m ks new v ok s p in
    let (answer, typed_word) = after_the_list m ks r ok t in
    (answer, typed_word.word ∙ sym stepped-word.word)
