-- Demand 2, the other way: the three statements of specs/RoundTrip.antt, by the laws on each valid syllable and the contracts.
use Rattle.std.specs.Prelude.{Result, Ok}
use mathlib.Core.Path.{◌≡◌, sym, ap, subst, ◌∙◌}
use mathlib.Core.List.{List, [], ◌∷◌}
use Prim.Native.Nat.{ℕ}
use lib.ListN.{length, take}
use Rattle.rules.specs.CodePoints.{shown}
use Rattle.rules.specs.Speller.{read, standard_keys}
use Rattle.rules.specs.WhatComesBack.{keys_of, Written}
use Rattle.rules.specs.AnswersInNumbers.{answered, write_says}
use Rattle.rules.proofs.StaysInRange.{read_front}
use Rattle.rules.specs.Syllables.{open_word, ShownBySyllable}
use Rattle.forms.proofs.StandardList.{standard_list, one_list}
use Rattle.forms.proofs.RoundTrip.{round_trip}
use Rattle.forms.proofs.Spells.{Accepts, written_accepts, accepts_written}
use Rattle.forms.proofs.AcceptedTexts.{shown_spelled, spelled_shown}
use Rattle.promises.specs.ContractsAllow.{SpellAllows}
use Rattle.promises.specs.RoundTrip.{SpelledBack, OneList, OnlySyllables}
use Rattle.promises.proofs.FromNumbers.{wrote_as}
use Rattle.promises.proofs.AsDefined.{spelled_answer, spelled_output}
use Rattle.promises.proofs.EachSyllable.{typed_gives}
use Rattle.rules.specs.declared.Refusal.{Refusal}

pub spelled_back : SpelledBack
spelled_back m mode w t s before after r room a =
    let g = standard_list m mode w t s in
    let e = shown_spelled m mode w t s before room in
    record {
      answer = ap write_says (spelled_answer a ∙ ap (λ (x : Written). x.answer) e);
      output = spelled_output a ∙ ap (λ (x : Written). x.output) e;
      few = g.short;
      again = λ x b. typed_gives m (standard_keys m w t) w t mode g x b;
    }

-- a result that says so many keys is that they were written
wrote : {m : ℕ} {text before after : List ℕ} {r : Result ℕ Refusal} {n : ℕ} → SpellAllows m text before r after → write_says r ≡ answered (n ∷ []) → SpellAllows m text before (Ok n) after
wrote {m} {text} {before} {after} {r} {n} a e = subst (λ (x : Result ℕ Refusal). SpellAllows m text before x after) (wrote_as r n e) a

of_syllable : {m : ℕ} {text before after : List ℕ} {n : ℕ} → SpellAllows m text before (Ok n) after → ShownBySyllable text
of_syllable {m} {text} {before} a = spelled_shown m text before (sym (spelled_answer a))

pub only_syllables : OnlySyllables
only_syllables m text before after r n a e = of_syllable (wrote a e)

-- what was written for the text of a syllable is its list
list_written : (m : ℕ) (text before after : List ℕ) (n : ℕ) → (s : ShownBySyllable text) → Accepts m text before → SpellAllows m text before (Ok n) after →
    take n after ≡ standard_keys m s.letters s.tone
list_written m text before after n s given a =
    let ks = keys_of m (read text) in
    let e = accepts_written m text before given in
    let f : Ok n ≡ Ok (length ks) = spelled_answer a ∙ ap (λ (x : Written). x.answer) e in
    let l : length ks ≡ n = cc in
    ap (take n) (spelled_output a ∙ ap (λ (x : Written). x.output) e) ∙ read_front ks before n l ∙
    ap (λ (x : List ℕ). keys_of m (read x)) s.as_shown ∙ (round_trip m given.mode s.letters s.tone s.syllable).keys

pub lists_differ : OneList
lists_differ m text text' before before' after after' r r' n n' a so b so' e =
    let p = wrote a so in
    let q = wrote b so' in
    let s = of_syllable p in
    let s' = of_syllable q in
    let given = written_accepts m text before (sym (spelled_answer p)) in
    let given' = written_accepts m text' before' (sym (spelled_answer q)) in
    let (w, t) = one_list m given.mode s.letters s'.letters s.tone s'.tone s.syllable s'.syllable
    (sym (list_written m text before after n s given p) ∙ e ∙ list_written m text' before' after' n' s' given' q) in
    s.as_shown ∙ (λ i. shown (open_word (w i) (t i))) ∙ sym s'.as_shown
