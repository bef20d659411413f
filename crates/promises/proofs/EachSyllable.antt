-- Demand 3, second half: `SecondHalf` of specs/EachSyllable.antt, by the law on each valid syllable and the contracts.
use Rattle.std.specs.Prelude.{Ok}
use mathlib.Core.Path.{◌≡◌, ap, ◌∙◌}
use mathlib.Core.Bool.{false}
use mathlib.Core.List.{List, ◌++◌}
use Prim.Native.Nat.{ℕ}
use lib.Dec.{T}
use Rattle.rules.specs.Letters.{Letters}
use Rattle.rules.specs.TheWord.{Typed, word_of}
use Rattle.rules.specs.TakingApart.{verdict}
use Rattle.rules.specs.Decision.{decision}
use Rattle.rules.specs.Refusals.{is_mode, out_of_range}
use Rattle.rules.specs.WhatComesBack.{typed, Written}
use Rattle.rules.specs.declared.TypeAll.{TypeAll}
use Rattle.rules.specs.declared.Decision.{Decision}
use Rattle.rules.proofs.NotRefused.{judges, decides, typed_in_range, typed_word}
use Rattle.rules.specs.Syllables.{open_word, bare_keys}
use Rattle.forms.specs.Spelling.{Gives}
use Rattle.forms.proofs.AnyOrder.{any_order}
use Rattle.rules.specs.AnswersInNumbers.{type_says, write_says, verdict_says, decision_says}
use Rattle.promises.specs.ContractsAllow.{TypeAllows}
use Rattle.promises.specs.EachSyllable.{IsSyllable, SecondHalf}
use Rattle.promises.proofs.AsDefined.{typed_as, shown_answer, shown_output, judged, decided}
use Rattle.promises.proofs.Alike.{writes_state, no_room_for}

-- keys that give a syllable: whatever typing them may answer is that syllable
pub typed_gives : (m : ℕ) (ks : List ℕ) (w : Letters) (t : ℕ) → T (is_mode m) → Gives m ks w t → (r : TypeAll) → TypeAllows m ks r → IsSyllable r w t
typed_gives m ks w t mode g r a =
    let e = typed_as a in
    let ok = ap (λ (x : TypeAll). x.answer) g.answered in
    let word_is : word_of r.word ≡ typed m ks = ap (λ (x : TypeAll). word_of x.word) e ∙ typed_word m ks ok in
    let range : out_of_range r.word ≡ false = ap (λ (x : TypeAll). out_of_range x.word) e ∙ typed_in_range m ks ok in
    let state_is : (word_of r.word).state ≡ open_word w t = ap (λ (z : Typed). z.state) word_is ∙ g.state in
    record {
      answer = ap type_says (ap (λ (x : TypeAll). x.answer) e ∙ ok);
      state = state_is;
      text = λ {before} room p.
          let f = writes_state r.word range (open_word w t) state_is before room in
          (ap write_says (shown_answer p ∙ ap (λ (x : Written). x.answer) f), shown_output p ∙ ap (λ (x : Written). x.output) f);
      no_room = λ {before} short p.
          let f = no_room_for r.word range (open_word w t) state_is before short in
          (ap write_says (shown_answer p ∙ ap (λ (x : Written). x.answer) f), shown_output p ∙ ap (λ (x : Written). x.output) f);
      verdict = λ p. ap verdict_says (judged p ∙ judges r.word range ∙ ap (λ (z : Typed). Ok (verdict z.state.letters z.state.tone)) word_is ∙ ap (λ (v : ℕ). Ok v) g.verdict_0);
      decision = λ p. ap decision_says (decided p ∙ decides r.word range ∙ ap (λ (z : Typed). Ok (decision z)) word_is ∙ ap (λ (d : Decision). Ok d) g.kept);
    }

pub second_half : SecondHalf
second_half m mode w t s ks order r a = typed_gives m (bare_keys w ++ ks) w t mode (any_order m mode w t s ks order) r a
