-- Demand 3, first half: `FirstHalf` of specs/TwoOrders.antt, by the law on records and the contracts.
use mathlib.Core.Path.{◌≡◌, refl, sym, ap, subst, ◌∙◌}
use mathlib.Core.Bool.{false}
use mathlib.Core.List.{List, map}
use Prim.Native.Nat.{ℕ, ◌≤◌}
use native.Mathlib.Omega.{arith}
use lib.Dec.{T}
use lib.ListN.{length, take, length-map}
use lib.Seq.{length-take-le}
use Rattle.rules.specs.TheWord.{word_of}
use Rattle.rules.specs.KeyRoles.{role}
use Rattle.rules.specs.Decision.{keeps, decision}
use Rattle.rules.specs.Refusals.{out_of_range}
use Rattle.rules.specs.WhatComesBack.{Written, step}
use Rattle.rules.specs.KeyPlaces.{exchanged, with_exchanged}
use Rattle.rules.specs.declared.Word.{Word}
use Rattle.rules.specs.declared.Role.{Role}
use Rattle.rules.specs.declared.Role.TheVariants.{ToneRole, ShapeRole, StrokeRole, NoRole}
use Rattle.rules.specs.declared.Outcome.TheVariants.{Acted}
use Rattle.rules.specs.declared.Step.{Step}
use Rattle.rules.proofs.Tests.{is_false}
use Rattle.rules.proofs.Commute.{Differ}
use Rattle.rules.proofs.Range.{in_range}
use Rattle.rules.proofs.StaysInRange.{Whole, read_front, step_in_range}
use Rattle.rules.proofs.NotRefused.{shows, finds, judges, decides}
use Rattle.rules.proofs.RecordOrders.{record_orders}
use Rattle.rules.specs.AnswersInNumbers.{step_says, write_says, place_says, verdict_says, decision_says}
use Rattle.promises.proofs.FromNumbers.{did_as}
use Rattle.promises.specs.TwoOrders.{differ, OpenWithRoom, FirstHalf}
use Rattle.promises.proofs.AsDefined.{stepped, shown_answer, shown_output, placed, judged, decided}
use Rattle.promises.proofs.Alike.{same_text, same_place, same_verdict, same_decision}

families : (r q : Role) → T (differ r q) → Differ r q
families (ToneRole t) (ToneRole u) d = absurd d
families (ToneRole t) (ShapeRole h) d = Differ.tone_shape
families (ToneRole t) StrokeRole d = Differ.tone_stroke
families (ToneRole t) NoRole d = absurd d
families (ShapeRole h) (ToneRole t) d = Differ.swapped Differ.tone_shape
families (ShapeRole h) (ShapeRole i) d = absurd d
families (ShapeRole h) StrokeRole d = Differ.shape_stroke
families (ShapeRole h) NoRole d = absurd d
families StrokeRole (ToneRole t) d = Differ.swapped Differ.tone_stroke
families StrokeRole (ShapeRole h) d = Differ.swapped Differ.shape_stroke
families StrokeRole StrokeRole d = absurd d
families StrokeRole NoRole d = absurd d
families NoRole (ToneRole t) d = absurd d
families NoRole (ShapeRole h) d = absurd d
families NoRole StrokeRole d = absurd d
families NoRole NoRole d = absurd d

whole : {w : Word} → OpenWithRoom w → Whole w
whole o = record { letters = o.letters; by = o.by; shaped_by = o.shaped_by; keys = o.keys }

in_range_after : (w : Word) → OpenWithRoom w → (x y : ℕ) → out_of_range (step (step w x).word y).word ≡ false
in_range_after w o x y =
    let (r, v) = step_in_range w x (whole o) o.range in
    is_false (out_of_range (step (step w x).word y).word) (step_in_range (step w x).word y v r).0

places_enough : (w : Word) → OpenWithRoom w → (x y : ℕ) → (step (step w x).word y).word.count ≤ length (step (step w x).word y).word.shaped_by
places_enough w o x y =
    let (r, v) = step_in_range w x (whole o) o.range in
    let (q, u) = step_in_range (step w x).word y v r in
    omega (arith, u.shaped_by, (in_range (step (step w x).word y).word q).count)

-- the kept keys and the places of keys have no part in the decision
decided_alike : (n : ℕ) (z : Word) (ks : List ℕ) → decision (word_of (with_exchanged n z ks)) ≡ decision (word_of z)
unfolding keeps
decided_alike n z ks = refl

-- the places of the letters in use, exchanged
shaped_alike : (n : ℕ) (z : Word) (ks : List ℕ) → z.count ≤ length z.shaped_by → take z.count (with_exchanged n z ks).shaped_by ≡ map (exchanged n) (take z.count z.shaped_by)
shaped_alike n z ks h =
    read_front (map (exchanged n) (take z.count z.shaped_by)) z.shaped_by z.count (length-map (take z.count z.shaped_by) (exchanged n) ∙ length-take-le z.count z.shaped_by h)

pub first_half : FirstHalf
first_half w k m a b wk wm km mk o differing k-typed k-acted m-typed m-acted m-after k-after =
    let e = stepped k-typed in
    let f = stepped m-typed in
    let x : km ≡ step (step w k).word m = stepped m-after ∙ ap (λ (s : Step). step s.word m) e in
    let y : mk ≡ step (step w m).word k = stepped k-after ∙ ap (λ (s : Step). step s.word k) f in
    let same = record_orders w (whole o) o.range o.room k m o.open_word (families (role w.mode k) (role w.mode m) differing)
    (sym (ap (λ (s : Step). s.answer) e) ∙ did_as wk.answer (Acted a) k-acted) (sym (ap (λ (s : Step). s.answer) f) ∙ did_as wm.answer (Acted b) m-acted) in
    let keys = ap (λ (s : Step). s.word.keys) x ∙ ap (λ (z : Word). z.keys) same.equal in
    let words : km.word ≡ with_exchanged w.typed mk.word km.word.keys = ap (λ (s : Step). s.word) x ∙ same.equal ∙ (λ i. with_exchanged w.typed (sym y i).word (sym keys i)) in
    let few : mk.word.count ≤ length mk.word.shaped_by = subst (λ (s : Step). s.word.count ≤ length s.word.shaped_by) (sym y) (places_enough w o m k) in
    let km_range : out_of_range km.word ≡ false = ap (λ (s : Step). out_of_range s.word) x ∙ in_range_after w o k m in
    let mk_range : out_of_range mk.word ≡ false = ap (λ (s : Step). out_of_range s.word) y ∙ in_range_after w o m k in
    let states = ap (λ (z : Word). (word_of z).state) words in
    record {
      m_acts = ap step_says (ap (λ (s : Step). s.answer) x ∙ same.second_acts);
      k_acts = ap step_says (ap (λ (s : Step). s.answer) y ∙ same.first_acts);
      words = words;
      appending_places = ap (λ (z : Word). z.appended_by) words;
      shaping_places = ap (λ (z : Word). take z.count z.shaped_by) words ∙ shaped_alike w.typed mk.word km.word.keys few;
      tone_place = ap (λ (z : Word). z.toned_by) words;
      k_then_m = keys;
      m_then_k = ap (λ (s : Step). s.word.keys) y ∙ same.keys;
      text = λ p q. (
        ap write_says (shown_answer p ∙ ap (λ (z : Written). z.answer) (same_text km.word mk.word km_range mk_range states _) ∙ sym (shown_answer q)),
        shown_output p ∙ ap (λ (z : Written). z.output) (same_text km.word mk.word km_range mk_range states _) ∙ sym (shown_output q),
      );
      text_written = λ {out} room p.
          let f = shows km.word km_range out room in
          (ap write_says (shown_answer p ∙ ap (λ (z : Written). z.answer) f), shown_output p ∙ ap (λ (z : Written). z.output) f);
      place = λ p q. (_, ap place_says (placed p ∙ finds km.word km_range), ap place_says (placed q ∙ sym (same_place km.word mk.word km_range mk_range states) ∙ finds km.word km_range));
      verdict = λ p q. (_, ap verdict_says (judged p ∙ judges km.word km_range), ap verdict_says (judged q ∙ sym (same_verdict km.word mk.word km_range mk_range states) ∙ judges km.word km_range));
      decision = λ p q. (
        _,
        ap decision_says (decided p ∙ decides km.word km_range),
        ap decision_says (decided q ∙ sym (same_decision km.word mk.word km_range mk_range states (ap (λ (z : Word). decision (word_of z)) words ∙ decided_alike w.typed mk.word km.word.keys)) ∙ decides km.word km_range),
      );
    }
