-- The calls of the box: what their contracts allow is the answer, or the refusal that the table gives, with the lent bytes as they were; and it is one result, and possible.
use Rattle.std.specs.Prelude.{Option, Some, None, is_some}
use mathlib.Core.Path.{◌≡◌, refl, sym, ap, ◌∙◌}
use mathlib.Core.Bool.{Bool, true, false, ◌&&◌}
use mathlib.Core.List.{List, []}
use Prim.Native.Nat.{ℕ}
use denote.Bor.{Bor}
use denote.MutBor.{MutBor}
use lib.Dec.{T, eqb→eq}
use lib.ListN.{length}
use Rattle.rules.specs.CodePoints.{shown}
use Rattle.rules.specs.TheWord.{new_word, word_of, at_front, holding, outcome_of}
use Rattle.rules.specs.KeyRoles.{key_does, type}
use Rattle.rules.specs.Decision.{decision}
use Rattle.rules.specs.Speller.{read}
use Rattle.rules.specs.Refusals.{Call, refusal}
use Rattle.rules.specs.WhatComesBack as Rules
use Rattle.rules.specs.WhatComesBack.{start_call, start_or, step_call, step_or, write_or, show_call, word_call, place_or, verdict_or, decision_or, commit_call, typed, keys_of, spell_call}
use Rattle.rules.specs.AnswersInNumbers.{outcome_numbers, start_says, step_says, write_says, place_says, verdict_says, decision_says}
use Rattle.rules.specs.declared.Word.{Word}
use Rattle.rules.specs.declared.Refusal.{Refusal}
use Rattle.rules.proofs.Refused.{refusal_given, refusal_none}
use Rattle.rules.proofs.Tests.{is_true, is_false}
use Rattle.layout.specs.Places.{as_bytes, as_record, is_long, is_mark, byte, record_if, record_written, is_record, held}
use Rattle.layout.proofs.Answers.{written}
use Rattle.layout.proofs.RoundTrips.{read_whole}
use Rattle.press.specs.StepAndShow.{Shown}
use Rattle.felcantuzza.specs.Calls as Calls
use Rattle.felcantuzza.specs.Calls.{returned, value_by, in_one, only_one, placed, unless_refused, of_record, shown_says, commit_or}
use Rattle.promises.specs.Box.{FzStartAllows, FzTypeAllows, FzTypeAndShowAllows, FzShowAllows, FzVerdictAllows, FzPlaceAllows, FzDecisionAllows, FzCommitAllows, FzSpellAllows, OnBytes, press_call, BoxAnswers, BoxTight, BoxPossible}
use Rattle.promises.proofs.Pressed.{pressed_by, pressed}

-- what came back is a definition over whether there is a record and over the refusal of the call
module _ {R : Type 0} (b : Bool) (c : Call) (came_back : R) (over : Bool → Option Refusal → R) (e : came_back ≡ over b (refusal c)) (answer : R) (refused : Refusal → R)
    (no_record : (o : Option Refusal) → over false o ≡ refused (record { number = 8; value = 0 })) (answered : T b → over true None ≡ answer) (refused_so : (x : Refusal) → over true (Some x) ≡ refused x) where
  there : T b → (o : Option Refusal) → refusal c ≡ o → came_back ≡ over true o
  there t o n = e ∙ (λ i. over (is_true b t i) (n i))

  on_bytes : OnBytes b c came_back answer refused
  on_bytes =
      record {
        no_record = λ t. e ∙ ap (λ (x : Bool). over x (refusal c)) (is_false b t) ∙ no_record (refusal c);
        answers = λ t n. there t None ((refusal_none c).1 n) ∙ answered t;
        refuses = λ t x f. there t (Some x) ((refusal_given c x).1 f) ∙ refused_so x;
      }

-- a record is written whole into bytes that are as long as one
as_long : (w : Word) (lent : List ℕ) → T (is_long lent) → record_written w lent ≡ as_bytes w
as_long w lent t = written w lent (eqb→eq (length lent) 169 t)

long : (lent : List ℕ) → T (is_record lent) → T (is_long lent)
unfolding as_record
long lent = go (is_long lent) (is_mark (byte 3 lent))
  where
    go : (p q : Bool) → T (is_some (record_if (p && q) lent)) → T p
    go true q t = tt
    go false q t = t

-- what each contract says came back
module _ {mode : ℕ} {before after : List ℕ} {r v : ℕ} (a : FzStartAllows mode before r v after) where
  started : ◌≡◌ {A = ℕ × ℕ × List ℕ} (r, v, after) (returned (Calls.start mode before), value_by only_one (Calls.start mode before), Calls.start_word mode before)
  started =
      let p = a.post in
      (λ i. (p.0 i, (sym a.its_value ∙ p.1) i, (sym a.at_exit ∙ p.2) i)) ∙
      (λ i. (returned (Calls.start (a.of_mode i) (a.at_entry i)), value_by only_one (Calls.start (a.of_mode i) (a.at_entry i)), Calls.start_word (a.of_mode i) (a.at_entry i)))

module _ {before after : List ℕ} {key r v : ℕ} (a : FzTypeAllows before key r v after) where
  typed_in : ◌≡◌ {A = ℕ × ℕ × List ℕ} (r, v, after) (returned (Calls.type before key), value_by in_one (Calls.type before key), Calls.type_word before key)
  typed_in =
      let p = a.post in
      (λ i. (p.0 i, (sym a.its_value ∙ p.1) i, (sym a.at_exit ∙ p.2) i)) ∙
      (λ i. (returned (Calls.type (a.at_entry i) (a.of_key i)), value_by in_one (Calls.type (a.at_entry i) (a.of_key i)), Calls.type_word (a.at_entry i) (a.of_key i)))

module _ {before out after out_after : List ℕ} {key r d v : ℕ} (a : FzTypeAndShowAllows before key out r d v after out_after) where
  pressed_in : ◌≡◌ {A = ℕ × ℕ × ℕ × List ℕ × List ℕ} (r, d, v, after, out_after) (
    returned (Calls.type_and_show before key out),
    Calls.did (Calls.type_and_show before key out),
    value_by only_one (Calls.type_and_show before key out),
    Calls.type_and_show_word before key out,
    Calls.type_and_show_output before key out,
  )
  pressed_in =
      let p = a.post in
      (λ i. (p.0 i, (sym a.its_did ∙ p.1) i, (sym a.its_value ∙ p.2) i, (sym a.at_exit ∙ p.3) i, (sym a.out_at_exit ∙ p.4) i)) ∙
      (λ i.
      let s = Calls.type_and_show (a.at_entry i) (a.of_key i) (a.out_at_entry i) in (
        returned s,
        Calls.did s,
        value_by only_one s,
        Calls.type_and_show_word (a.at_entry i) (a.of_key i) (a.out_at_entry i),
        Calls.type_and_show_output (a.at_entry i) (a.of_key i) (a.out_at_entry i),
      ))

  -- by the table
  abbrev over_press : Bool → Shown → ℕ × ℕ × ℕ × List ℕ × List ℕ
  over_press b p =
      let s = of_record b (shown_says p.result.answer) in
      (returned s, Calls.did s, value_by only_one s, unless_refused s (record_written p.result.word before) before, unless_refused s p.output out)

  by_press : ◌≡◌ {A = ℕ × ℕ × ℕ × List ℕ × List ℕ} (r, d, v, after, out_after) (over_press (is_record before) (pressed_by (held before) key out (refusal (press_call (held before) key out))))
  unfolding Calls.type_and_show
  by_press = pressed_in ∙ ap (over_press (is_record before)) (pressed (held before) key out (read_whole before))

module _ {lent before after : List ℕ} {r v : ℕ} (a : FzShowAllows lent before r v after) where
  shown_in : ◌≡◌ {A = ℕ × ℕ × List ℕ} (r, v, after) (returned (Calls.show lent before), value_by only_one (Calls.show lent before), Calls.show_output lent before)
  shown_in =
      let p = a.post in
      (λ i. (p.0 i, (sym a.its_value ∙ p.1) i, (sym a.at_exit ∙ p.2) i)) ∙
      (λ i. (returned (Calls.show (a.of_word i) (a.at_entry i)), value_by only_one (Calls.show (a.of_word i) (a.at_entry i)), Calls.show_output (a.of_word i) (a.at_entry i)))

judged_in : {lent : List ℕ} {r v : ℕ} → FzVerdictAllows lent r v → ◌≡◌ {A = ℕ × ℕ} (r, v) (returned (Calls.verdict lent), value_by only_one (Calls.verdict lent))
judged_in a = let p = a.post in (λ i. (p.0 i, (sym a.its_value ∙ p.1) i)) ∙ (λ i. (returned (Calls.verdict (a.of_word i)), value_by only_one (Calls.verdict (a.of_word i))))

placed_in : {lent : List ℕ} {r v : ℕ} → FzPlaceAllows lent r v → ◌≡◌ {A = ℕ × ℕ} (r, v) (returned (Calls.place lent), value_by placed (Calls.place lent))
placed_in a = let p = a.post in (λ i. (p.0 i, (sym a.its_value ∙ p.1) i)) ∙ (λ i. (returned (Calls.place (a.of_word i)), value_by placed (Calls.place (a.of_word i))))

decided_in : {lent : List ℕ} {r v : ℕ} → FzDecisionAllows lent r v → ◌≡◌ {A = ℕ × ℕ} (r, v) (returned (Calls.decision lent), value_by only_one (Calls.decision lent))
decided_in a = let p = a.post in (λ i. (p.0 i, (sym a.its_value ∙ p.1) i)) ∙ (λ i. (returned (Calls.decision (a.of_word i)), value_by only_one (Calls.decision (a.of_word i))))

module _ {mode : ℕ} {keys text : List ℕ} {r v : ℕ} (a : FzCommitAllows mode keys text r v) where
  committed_in : ◌≡◌ {A = ℕ × ℕ} (r, v) (returned (Calls.commit mode keys text), value_by only_one (Calls.commit mode keys text))
  committed_in =
      let p = a.post in
      (λ i. (p.0 i, (sym a.its_value ∙ p.1) i)) ∙
      (λ i. (returned (Calls.commit (a.of_mode i) (a.of_keys i) (a.of_text i)), value_by only_one (Calls.commit (a.of_mode i) (a.of_keys i) (a.of_text i))))

module _ {mode : ℕ} {text before after : List ℕ} {r v : ℕ} (a : FzSpellAllows mode text before r v after) where
  spelled_in : ◌≡◌ {A = ℕ × ℕ × List ℕ} (r, v, after) (returned (Calls.spell mode text before), value_by only_one (Calls.spell mode text before), Calls.spell_output mode text before)
  spelled_in =
      let p = a.post in
      (λ i. (p.0 i, (sym a.its_value ∙ p.1) i, (sym a.at_exit ∙ p.2) i)) ∙
      (λ i. (
        returned (Calls.spell (a.of_mode i) (a.of_text i) (a.at_entry i)),
        value_by only_one (Calls.spell (a.of_mode i) (a.of_text i) (a.at_entry i)),
        Calls.spell_output (a.of_mode i) (a.of_text i) (a.at_entry i),
      ))

pub box_answers : BoxAnswers
unfolding Calls.start Calls.type Calls.show Calls.verdict Calls.place Calls.decision Calls.commit Calls.spell Rules.step Rules.show Rules.place_answer Rules.verdict_answer Rules.decision_answer Rules.spell
box_answers =
    record {
      starting = λ mode before after r v a.
          on_bytes {R = ℕ × ℕ × List ℕ} (is_long before) (start_call mode) (r, v, after)
          (λ b o. let s = of_record b (start_says (start_or o mode).answer) in (returned s, value_by only_one s, unless_refused s (record_written (start_or o mode).word before) before)) (started a) _ _ (λ o. refl)
          (λ t. ap (λ (l : List ℕ). (0, 0, l)) (as_long (new_word mode) before t)) (λ x. refl);
      typing = λ before after key r v a.
          on_bytes {R = ℕ × ℕ × List ℕ} (is_record before) (step_call (held before) key) (r, v, after)
          (λ b o. let s = of_record b (step_says (step_or o (held before) key).answer) in (returned s, value_by in_one s, unless_refused s (record_written (step_or o (held before) key).word before) before)) (typed_in a) _ _
          (λ o. refl) (λ t. ap (λ (l : List ℕ). (0, in_one (outcome_numbers (outcome_of (key_does (word_of (held before)) key))), l)) (as_long _ before (long before t))) (λ x. refl);
      pressing = λ before out after out_after key r d v a.
          on_bytes {R = ℕ × ℕ × ℕ × List ℕ × List ℕ} (is_record before) (press_call (held before) key out) (r, d, v, after, out_after) (λ b o. over_press a b (pressed_by (held before) key out o)) (by_press a) _ _
          (λ o. refl)
          (λ t.
          let z = type (word_of (held before)) key in
          ap (λ (l : List ℕ). (0, in_one (outcome_numbers (outcome_of (key_does (word_of (held before)) key))), length (shown z.state), l, at_front (shown z.state) out)) (as_long (holding (held before) z) before (long before t)))
          (λ x. refl);
      showing = λ lent before after r v a.
          on_bytes {R = ℕ × ℕ × List ℕ} (is_record lent) (show_call (held lent) before) (r, v, after)
          (λ b o.
          let w = write_or o (shown (word_of (held lent)).state) before in
          let s = of_record b (write_says w.answer) in
          (returned s, value_by only_one s, unless_refused s w.output before)) (shown_in a) _ _ (λ o. refl) (λ t. refl) (λ x. refl);
      judging = λ lent r v a.
          on_bytes {R = ℕ × ℕ} (is_record lent) (word_call (held lent)) (r, v) (λ b o. let s = of_record b (verdict_says (verdict_or o (held lent))) in (returned s, value_by only_one s)) (judged_in a) _ _ (λ o. refl) (λ t. refl)
          (λ x. refl);
      placing = λ lent r v a.
          on_bytes {R = ℕ × ℕ} (is_record lent) (word_call (held lent)) (r, v) (λ b o. let s = of_record b (place_says (place_or o (held lent))) in (returned s, value_by placed s)) (placed_in a) _ _ (λ o. refl) (λ t. refl)
          (λ x. refl);
      deciding = λ lent r v a.
          on_bytes {R = ℕ × ℕ} (is_record lent) (word_call (held lent)) (r, v) (λ b o. let s = of_record b (decision_says (decision_or o (held lent))) in (returned s, value_by only_one s)) (decided_in a) _ _ (λ o. refl) (λ t. refl)
          (λ x. refl);
      committing = λ mode keys text r v a.
          on_bytes {R = ℕ × ℕ} true (commit_call mode keys text) (r, v) (λ b o. let s = of_record b (commit_or o (decision (typed mode keys))) in (returned s, value_by only_one s)) (committed_in a) _ _ (λ o. refl) (λ t. refl)
          (λ x. refl);
      spelling = λ mode text before after r v a.
          on_bytes {R = ℕ × ℕ × List ℕ} true (spell_call mode text before) (r, v, after)
          (λ b o.
          let w = write_or o (keys_of mode (read text)) before in
          let s = of_record b (write_says w.answer) in
          (returned s, value_by only_one s, elim b [ true ↦ w.output | false ↦ before ])) (spelled_in a) _ _ (λ o. refl) (λ t. refl) (λ x. refl);
    }

-- equal in each part
two : {A B : Type 0} {a a' : A} {b b' : B} → ◌≡◌ {A = A × B} (a, b) (a', b') → (a ≡ a') × (b ≡ b')
two {A} {B} e = (ap (λ (p : A × B). p.0) e, ap (λ (p : A × B). p.1) e)

three : {A B C : Type 0} {a a' : A} {b b' : B} {c c' : C} → ◌≡◌ {A = A × B × C} (a, b, c) (a', b', c') → (a ≡ a') × (b ≡ b') × (c ≡ c')
three {A} {B} {C} e = (ap (λ (p : A × B × C). p.0) e, ap (λ (p : A × B × C). p.1) e, ap (λ (p : A × B × C). p.2) e)

five : {A B C D E : Type 0} {a a' : A} {b b' : B} {c c' : C} {d d' : D} {e e' : E} → ◌≡◌ {A = A × B × C × D × E} (a, b, c, d, e) (a', b', c', d', e') → (a ≡ a') × (b ≡ b') × (c ≡ c') × (d ≡ d') × (e ≡ e')
five {A} {B} {C} {D} {E} e = (
  ap (λ (p : A × B × C × D × E). p.0) e,
  ap (λ (p : A × B × C × D × E). p.1) e,
  ap (λ (p : A × B × C × D × E). p.2) e,
  ap (λ (p : A × B × C × D × E). p.3) e,
  ap (λ (p : A × B × C × D × E). p.4) e,
)

pub box_tight : BoxTight
box_tight =
    record {
      starting = λ mode before after after' r r' v v' a b. three (started a ∙ sym (started b));
      typing = λ before after after' key r r' v v' a b. three (typed_in a ∙ sym (typed_in b));
      pressing = λ before out after after' out_after out_after' key r r' d d' v v' a b. five (pressed_in a ∙ sym (pressed_in b));
      showing = λ lent before after after' r r' v v' a b. three (shown_in a ∙ sym (shown_in b));
      judging = λ lent r r' v v' a b. two (judged_in a ∙ sym (judged_in b));
      placing = λ lent r r' v v' a b. two (placed_in a ∙ sym (placed_in b));
      deciding = λ lent r r' v v' a b. two (decided_in a ∙ sym (decided_in b));
      committing = λ mode keys text r r' v v' a b. two (committed_in a ∙ sym (committed_in b));
      spelling = λ mode text before after after' r r' v v' a b. three (spelled_in a ∙ sym (spelled_in b));
    }

-- lent bytes that hold these, bytes lent to be written, and a number lent so
abbrev pub holds : List ℕ → Bor (List ℕ)
holds bs = record { ref_ptr = (0, 0); now = bs }

abbrev pub lends : List ℕ → MutBor (List ℕ)
lends bs = record { ref_ptr = (0, 0); ghost_name = 0; now = bs }

abbrev number : ℕ → MutBor ℕ
number n = record { ref_ptr = (0, 0); ghost_name = 0; now = n }

pub box_possible : BoxPossible
box_possible =
    record {
      starting = λ mode before. (
        _,
        _,
        _,
        record {
          lifetimes = ([], ([], tt));
          args = (mode, (lends before, (number 0, tt)));
          exit = (mode, (lends (Calls.start_word mode before), (number (value_by only_one (Calls.start mode before)), tt)));
          of_mode = refl;
          at_entry = refl;
          at_exit = refl;
          its_value = refl;
          post = (refl, refl, refl);
        },
      );
      typing = λ before key. (
        _,
        _,
        _,
        record {
          lifetimes = ([], ([], tt));
          args = (lends before, (key, (number 0, tt)));
          exit = (lends (Calls.type_word before key), (key, (number (value_by in_one (Calls.type before key)), tt)));
          at_entry = refl;
          of_key = refl;
          at_exit = refl;
          its_value = refl;
          post = (refl, refl, refl);
        },
      );
      pressing = λ before key out. (
        _,
        _,
        _,
        _,
        _,
        record {
          lifetimes = ([], ([], ([], ([], tt))));
          args = (lends before, (key, (lends out, (number 0, (number 0, tt)))));
          exit = (
            lends (Calls.type_and_show_word before key out),
            (key, (lends (Calls.type_and_show_output before key out), (number (Calls.did (Calls.type_and_show before key out)), (number (value_by only_one (Calls.type_and_show before key out)), tt)))),
          );
          at_entry = refl;
          of_key = refl;
          out_at_entry = refl;
          at_exit = refl;
          out_at_exit = refl;
          its_did = refl;
          its_value = refl;
          post = (refl, refl, refl, refl, refl);
        },
      );
      showing = λ lent before. (
        _,
        _,
        _,
        record {
          lifetimes = ([], ([], ([], tt)));
          args = (holds lent, (lends before, (number 0, tt)));
          exit = (holds lent, (lends (Calls.show_output lent before), (number (value_by only_one (Calls.show lent before)), tt)));
          of_word = refl;
          at_entry = refl;
          at_exit = refl;
          its_value = refl;
          post = (refl, refl, refl);
        },
      );
      judging = λ lent. (
        _,
        _,
        record { lifetimes = ([], ([], tt)); args = (holds lent, (number 0, tt)); exit = (holds lent, (number (value_by only_one (Calls.verdict lent)), tt)); of_word = refl; its_value = refl; post = (refl, refl) },
      );
      placing = λ lent. (
        _,
        _,
        record { lifetimes = ([], ([], tt)); args = (holds lent, (number 0, tt)); exit = (holds lent, (number (value_by placed (Calls.place lent)), tt)); of_word = refl; its_value = refl; post = (refl, refl) },
      );
      deciding = λ lent. (
        _,
        _,
        record { lifetimes = ([], ([], tt)); args = (holds lent, (number 0, tt)); exit = (holds lent, (number (value_by only_one (Calls.decision lent)), tt)); of_word = refl; its_value = refl; post = (refl, refl) },
      );
      committing = λ mode keys text. (
        _,
        _,
        record {
          lifetimes = ([], ([], ([], tt)));
          args = (mode, (holds keys, (holds text, (number 0, tt))));
          exit = (mode, (holds keys, (holds text, (number (value_by only_one (Calls.commit mode keys text)), tt))));
          of_mode = refl;
          of_keys = refl;
          of_text = refl;
          its_value = refl;
          post = (refl, refl);
        },
      );
      spelling = λ mode text before. (
        _,
        _,
        _,
        record {
          lifetimes = ([], ([], ([], tt)));
          args = (mode, (holds text, (lends before, (number 0, tt))));
          exit = (mode, (holds text, (lends (Calls.spell_output mode text before), (number (value_by only_one (Calls.spell mode text before)), tt))));
          of_mode = refl;
          of_text = refl;
          at_entry = refl;
          at_exit = refl;
          its_value = refl;
          post = (refl, refl, refl);
        },
      );
    }
