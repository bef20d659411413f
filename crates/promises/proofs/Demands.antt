-- The demands hold: `Demands` of specs/Demands.antt, by the laws on refusals and definitions, and the other files here.
use Rattle.std.specs.Prelude.{Option, Some, None, Result, Ok, Err}
use mathlib.Core.Path.{◌≡◌, refl, sym, ap, ◌∙◌}
use mathlib.Core.List.{List, [], ◌∷◌}
use mathlib.Core.Logic.{◌↔◌}
use Prim.Native.Nat.{ℕ}
use lib.ListN.{length, drop}
use Rattle.rules.specs.Speller.{read}
use Rattle.rules.specs.CodePoints.{shown}
use Rattle.rules.specs.TheWord.{Typed, word_of, at_front}
use Rattle.rules.specs.Decision.{decision, handed_back}
use Rattle.rules.specs.Refusals.{Call, table, refusal, FirstOf, NoneHolds}
use Rattle.rules.specs.WhatComesBack.{start_call, start_or, start, step_call, step_or, step, typed, type_call, type_or, type_all, write_or, show_call, show, word_call, place_or, place_answer, verdict_or, verdict_answer, decision_or, decision_answer, commit_call, commit_or, commit, granted_or, commit_answer, keys_of, spell_call, spell, room_call}
use Rattle.rules.specs.AnswersInNumbers.{Says, answered, refusing, start_says, step_says, type_says, write_says, place_says, verdict_says, decision_says, commit_says}
use Rattle.rules.specs.Drill.{word_line, line_or, keys_line, mode_of, line_by, answer_line, word_line_with_keys, answer_line_with_keys}
use Rattle.rules.specs.SpellProgram.{text_call, spelled_or, spell_line}
use Rattle.rules.specs.declared.Word.{Word}
use Rattle.rules.specs.declared.Refusal.{Refusal}
use Rattle.rules.specs.declared.Decision.{Decision}
use Rattle.rules.specs.declared.Decision.TheVariants.{Keep, Restore}
use Rattle.rules.proofs.Refused.{one_or_the_other, refusal_given, refusal_none, write_exactly, start_exactly, step_exactly, type_exactly, place_exactly, verdict_exactly, decision_exactly, commit_exactly}
use Rattle.commit.specs.Rulings.{decided as ruling_from, ruling_or, ruling_of, handed_from}
use Rattle.commit.specs.declared.Ruling.{Ruling}
use Rattle.commit.specs.declared.Ruling.TheVariants.{Keep, Restore}
use Rattle.output.specs.Front.{put}
use Rattle.lines.specs.Programs.{line_answer}
use Rattle.session.specs.declared.Session.{Session}
use Rattle.promises.specs.ContractsAllow.{CommitAllows}
use Rattle.promises.specs.Exactly.{Exactly}
use Rattle.promises.specs.Demands.{Demand1, Demand2, Tight, Possible, Recordings, Demands}
use Rattle.promises.proofs.AsDefined.{started, stepped, typed_as, shown_answer, shown_output, placed, judged, decided, handed_back_law, asked, spelled_answer, spelled_output, line_answer_law, line_output, key_answer, key_session}
use Rattle.promises.proofs.Box.{box_answers, box_tight, holds, lends, box_possible}
use Rattle.promises.proofs.EachKey.{every_prefix, after_each_key, after_the_list, at_each_key}
use Rattle.promises.proofs.RoundTrip.{spelled_back, lists_differ, only_syllables}
use Rattle.promises.proofs.TwoOrders.{first_half}
use Rattle.promises.proofs.EachSyllable.{second_half}
use Rattle.promises.proofs.Committed.{granted, kept_or_keys}
use Rattle.promises.proofs.Recorded.{numbers_back, bytes_back, reader_steps, stands_still, every_recording, write_read, read_write, recorded_tight, recorded_possible}
use Rattle.promises.proofs.Replayed.{every_drill_typed, replay_is_typing, summary_adds_up, replay_too_short, replay_refuses}

-- what came back is a definition over the refusal of the call, and says that refusal in numbers
module _ {R : Type 0} (c : Call) (came_back : R) (over : Option Refusal → R) (e : came_back ≡ over (refusal c)) (says : R → Says)
    (so : (x : Refusal) → says (over (Some x)) ≡ refusing x) (given : (x : Refusal) → says (over (refusal c)) ≡ refusing x ↔ FirstOf (table c) x) where
  exactly : Exactly c came_back (over None) (λ x. over (Some x))
  exactly = record { answers = λ n. e ∙ ap over ((refusal_none c).1 n); refuses = λ x f. e ∙ ap over ((refusal_given c x).1 f); only_then = λ x d. (given x).0 (ap says (sym e ∙ d) ∙ so x) }

-- the numbers beside a word, a session or an output
abbrev says_of : {R : Type 0} → Says × R → Says
says_of p = p.0

-- an entry with an output: over the refusal of its call it is what is written of a text
module _ (c : Call) (text before after : List ℕ) (r : Result ℕ Refusal) (answer : r ≡ (write_or (refusal c) text before).answer) (output : after ≡ (write_or (refusal c) text before).output) where
  exactly_written : Exactly {R = Says × List ℕ} c (write_says r, after) (answered (length text ∷ []), at_front text before) (λ x. (refusing x, before))
  exactly_written =
      exactly {R = Says × List ℕ} c (write_says r, after) (λ o. (write_says (write_or o text before).answer, (write_or o text before).output)) (λ i. (write_says (answer i), output i)) says_of (λ x. refl) (write_exactly c text before)

-- what commit hands back, and where it begins
module _ {m : ℕ} {ks text part : List ℕ} (a : CommitAllows m ks text part) where
  begins : (o : Option Refusal) → refusal (commit_call m ks text) ≡ o → a.result.ref_ptr ≡ handed_from (ruling_or o m ks text) a.args.1.0.ref_ptr a.args.1.1.0.ref_ptr
  unfolding ruling_of
  begins o n =
      a.post.1 ∙
      ap (λ (r : Result Ruling Refusal). handed_from r a.args.1.0.ref_ptr a.args.1.1.0.ref_ptr) ((λ i. ruling_of (a.mode i) (a.keys i) (a.of_text i)) ∙ ap (λ (p : Option Refusal). ruling_or p m ks text) n)

  handed : (o : Option Refusal) → refusal (commit_call m ks text) ≡ o → part ≡ commit_or o m ks text
  unfolding commit
  handed o n = handed_back_law a ∙ ap (λ (p : Option Refusal). commit_or p m ks text) n

  granted_as_decided : (d : Decision) → NoneHolds (table (commit_call m ks text)) → decision (typed m ks) ≡ d →
      (part ≡ handed_back d text ks) × (a.result.ref_ptr ≡ handed_from (ruling_from d text) a.args.1.0.ref_ptr a.args.1.1.0.ref_ptr)
  granted_as_decided d n e =
      let none_given = (refusal_none (commit_call m ks text)).1 n in (
        handed None none_given ∙ ap (λ (x : Decision). handed_back x text ks) e,
        begins None none_given ∙ ap (λ (x : Decision). handed_from (ruling_from x text) a.args.1.0.ref_ptr a.args.1.1.0.ref_ptr) e,
      )

-- a line's answer, by the table
of_keys : (of_word : Typed → List ℕ) (line : List ℕ) (o : Option Refusal) → refusal (type_call (mode_of line) (drop 2 line)) ≡ o → line_by (keys_line of_word) line ≡ line_or of_word o (mode_of line) (drop 2 line)
of_keys of_word line o e = ap (λ (p : Option Refusal). line_or of_word p (mode_of line) (drop 2 line)) e

drill_line : (line : List ℕ) (o : Option Refusal) → refusal (type_call (mode_of line) (drop 2 line)) ≡ o → answer_line line ≡ line_or word_line o (mode_of line) (drop 2 line)
unfolding answer_line
drill_line = of_keys word_line

drill_with_keys_line : (line : List ℕ) (o : Option Refusal) → refusal (type_call (mode_of line) (drop 2 line)) ≡ o → answer_line_with_keys line ≡ line_or word_line_with_keys o (mode_of line) (drop 2 line)
unfolding answer_line_with_keys
drill_with_keys_line = of_keys word_line_with_keys

spell_line_law : (line : List ℕ) (o : Option Refusal) → refusal (text_call (mode_of line) (drop 2 line)) ≡ o → spell_line line ≡ spelled_or o (mode_of line) (drop 2 line)
unfolding spell_line
spell_line_law line o e = ap (λ (p : Option Refusal). spelled_or p (mode_of line) (drop 2 line)) e

demand_1 : Demand1
unfolding step type_all show place_answer verdict_answer decision_answer commit_answer spell put
demand_1 =
    record {
      one_or_the_other = one_or_the_other;
      starting = λ m r a.
          exactly {R = Says × Word} (start_call m) (start_says r.answer, r.word) (λ o. (start_says (start_or o m).answer, (start_or o m).word)) (λ i. (start_says (started a i).answer, (started a i).word)) says_of (λ x. refl)
          (start_exactly m);
      stepping = λ w k r a.
          exactly {R = Says × Word} (step_call w k) (step_says r.answer, r.word) (λ o. (step_says (step_or o w k).answer, (step_or o w k).word)) (λ i. (step_says (stepped a i).answer, (stepped a i).word)) says_of (λ x. refl)
          (step_exactly w k);
      typing = λ m ks r a.
          exactly {R = Says × Word} (type_call m ks) (type_says r.answer, r.word) (λ o. (type_says (type_or o m ks).answer, (type_or o m ks).word)) (λ i. (type_says (typed_as a i).answer, (typed_as a i).word)) says_of (λ x. refl)
          (type_exactly m ks);
      showing = λ w before after r a. exactly_written (show_call w before) (shown (word_of w).state) before after r (shown_answer a) (shown_output a);
      spelling = λ m text before after r a. exactly_written (spell_call m text before) (keys_of m (read text)) before after r (spelled_answer a) (spelled_output a);
      placing = λ w r a. exactly (word_call w) (place_says r) (λ o. place_says (place_or o w)) (ap place_says (placed a)) (λ (s : Says). s) (λ x. refl) (place_exactly w);
      judging = λ w r a. exactly (word_call w) (verdict_says r) (λ o. verdict_says (verdict_or o w)) (ap verdict_says (judged a)) (λ (s : Says). s) (λ x. refl) (verdict_exactly w);
      deciding = λ w r a. exactly (word_call w) (decision_says r) (λ o. decision_says (decision_or o w)) (ap decision_says (decided a)) (λ (s : Says). s) (λ x. refl) (decision_exactly w);
      asking = λ m ks text r a. exactly (commit_call m ks text) (commit_says r) (λ o. commit_says (granted_or o)) (ap commit_says (asked a)) (λ (s : Says). s) (λ x. refl) (commit_exactly m ks text);
      keeping = λ m ks text part a n e. granted_as_decided a Keep n e;
      restoring = λ m ks text part a n e. granted_as_decided a Restore n e;
      not_committing = λ m ks text part x a f. let e = (refusal_given (commit_call m ks text) x).1 f in (handed a (Some x) e, begins a (Some x) e);
      drill_answers = λ line n. drill_line line None ((refusal_none (type_call (mode_of line) (drop 2 line))).1 n);
      drill_refuses = λ line x f. drill_line line (Some x) ((refusal_given (type_call (mode_of line) (drop 2 line)) x).1 f);
      drill_with_keys_answers = λ line n. drill_with_keys_line line None ((refusal_none (type_call (mode_of line) (drop 2 line))).1 n);
      drill_with_keys_refuses = λ line x f. drill_with_keys_line line (Some x) ((refusal_given (type_call (mode_of line) (drop 2 line)) x).1 f);
      spell_answers = λ line n. spell_line_law line None ((refusal_none (text_call (mode_of line) (drop 2 line))).1 n);
      spell_refuses = λ line x f. spell_line_law line (Some x) ((refusal_given (text_call (mode_of line) (drop 2 line)) x).1 f);
      drilling = λ line before after r a. exactly_written (room_call (answer_line line) before) (answer_line line) before after r (line_answer_law a) (line_output a);
      drilling_with_keys = λ line before after r a. exactly_written (room_call (answer_line_with_keys line) before) (answer_line_with_keys line) before after r (line_answer_law a) (line_output a);
      spelling_lines = λ line before after r a. exactly_written (room_call (spell_line line) before) (spell_line line) before after r (line_answer_law a) (line_output a);
      in_session = λ before after k r a.
          exactly {R = Says × Session} (step_call before.word k) (step_says r, after) (λ o. (step_says (step_or o before.word k).answer, record { word = (step_or o before.word k).word }))
          (λ i. (step_says (key_answer a i), key_session a i)) says_of (λ x. refl) (step_exactly before.word k);
      in_the_box = box_answers;
    }

demand_2 : Demand2
demand_2 =
    record {
      every_prefix = every_prefix;
      after_each_key = after_each_key;
      after_the_list = after_the_list;
      both_the_same = at_each_key;
      spelled_back = spelled_back;
      one_list = lists_differ;
      only_syllables = only_syllables;
      shown_is_granted = granted;
      kept_or_keys = kept_or_keys;
    }

tight : Tight
tight =
    record {
      starting = λ m r r' a b. started a ∙ sym (started b);
      stepping = λ w k r r' a b. stepped a ∙ sym (stepped b);
      typing = λ m ks r r' a b. typed_as a ∙ sym (typed_as b);
      showing = λ w before after after' r r' a b. (shown_answer a ∙ sym (shown_answer b), shown_output a ∙ sym (shown_output b));
      spelling = λ m text before after after' r r' a b. (spelled_answer a ∙ sym (spelled_answer b), spelled_output a ∙ sym (spelled_output b));
      placing = λ w r r' a b. placed a ∙ sym (placed b);
      judging = λ w r r' a b. judged a ∙ sym (judged b);
      deciding = λ w r r' a b. decided a ∙ sym (decided b);
      asking = λ m ks text r r' a b. asked a ∙ sym (asked b);
      committing = λ m ks text part part' a b. handed_back_law a ∙ sym (handed_back_law b);
      answering_a_line = λ p line before after after' r r' a b. (line_answer_law a ∙ sym (line_answer_law b), line_output a ∙ sym (line_output b));
      in_session = λ before after after' k r r' a b. (key_answer a ∙ sym (key_answer b), key_session a ∙ sym (key_session b));
      in_the_box = box_tight;
    }

-- where both slices begin at one place, so does the part
at_one_place : (r : Result Ruling Refusal) (p : ℕ × ℕ) → p ≡ handed_from r p p
at_one_place (Ok (Keep n)) p = refl
at_one_place (Ok Restore) p = refl
at_one_place (Err x) p = refl

possible : Possible
possible =
    record {
      starting = λ m. (start m, record { lifetimes = tt; exit = (m, tt); post = refl });
      stepping = λ w k. (step w k, record { lifetimes = tt; exit = (w, (k, tt)); post = refl });
      typing = λ m ks. (type_all m ks, record { lifetimes = ([], tt); args = (m, (holds ks, tt)); exit = (m, (holds ks, tt)); mode = refl; keys = refl; post = refl });
      showing = λ w before. (
        (show w before).answer,
        (show w before).output,
        record { lifetimes = ([], tt); args = (w, (lends before, tt)); exit = (w, (lends (show w before).output, tt)); of_word = refl; at_entry = refl; at_exit = refl; post = (refl, refl) },
      );
      spelling = λ m text before. (
        (spell m text before).answer,
        (spell m text before).output,
        record {
          lifetimes = ([], ([], tt));
          args = (m, (holds text, (lends before, tt)));
          exit = (m, (holds text, (lends (spell m text before).output, tt)));
          mode = refl;
          of_text = refl;
          at_entry = refl;
          at_exit = refl;
          post = (refl, refl);
        },
      );
      placing = λ w. (place_answer w, record { lifetimes = tt; exit = (w, tt); post = refl });
      judging = λ w. (verdict_answer w, record { lifetimes = tt; exit = (w, tt); post = refl });
      deciding = λ w. (decision_answer w, record { lifetimes = tt; exit = (w, tt); post = refl });
      asking = λ m ks text. (
        commit_answer m ks text,
        record { lifetimes = ([], ([], tt)); args = (m, (holds ks, (holds text, tt))); exit = (m, (holds ks, (holds text, tt))); mode = refl; keys = refl; of_text = refl; post = refl },
      );
      committing = λ m ks text. (
        commit m ks text,
        record {
          lifetimes = ([], tt);
          args = (m, (holds ks, (holds text, tt)));
          result = holds (commit m ks text);
          exit = (m, (holds ks, (holds text, tt)));
          mode = refl;
          keys = refl;
          of_text = refl;
          part_is = refl;
          post = (refl, at_one_place (ruling_of m ks text) (0, 0));
        },
      );
      answering_a_line = λ p line before. (
        (line_answer p line before).answer,
        (line_answer p line before).output,
        record {
          lifetimes = ([], ([], tt));
          args = (p, (holds line, (lends before, tt)));
          exit = (p, (holds line, (lends (line_answer p line before).output, tt)));
          of_program = refl;
          of_line = refl;
          at_entry = refl;
          at_exit = refl;
          post = (refl, refl);
        },
      );
      in_session = λ before k. (
        (step before.word k).answer,
        record { word = (step before.word k).word },
        record {
          lifetimes = ([], tt);
          args = (record { ref_ptr = (0, 0); ghost_name = 0; now = before }, (k, tt));
          exit = (record { ref_ptr = (0, 0); ghost_name = 0; now = record { word = (step before.word k).word } }, (k, tt));
          at_entry = refl;
          key = refl;
          at_exit = refl;
          post = (refl, refl);
        },
      );
      in_the_box = box_possible;
    }

recordings : Recordings
recordings =
    record {
      numbers_back = numbers_back;
      bytes_back = bytes_back;
      reader_steps = reader_steps;
      stands_still = stands_still;
      every_recording = every_recording;
      write_read = write_read;
      read_write = read_write;
      every_drill_typed = every_drill_typed possible;
      replay_is_typing = replay_is_typing;
      summary_adds_up = summary_adds_up;
      replay_too_short = replay_too_short;
      replay_refuses = replay_refuses;
      tight = recorded_tight;
      possible = recorded_possible;
    }

pub demands : Demands
demands =
    record {
      demand_1 = demand_1;
      demand_2 = demand_2;
      demand_3 = record { two_orders = first_half; each_syllable = second_half };
      tight = tight;
      possible = possible;
      recordings = recordings;
    }
