-- Replays: the statements of specs/Recorded.antt on replays. Each run of keys between spaces is accepted, so what typing, showing and committing give of it is its line; and the summary is a sum over the words.
use Rattle.std.specs.Prelude.{Option, Some, None, Result, Ok}
use mathlib.Core.Path.{◌≡◌, refl, sym, ap, subst, ◌∙◌}
use mathlib.Core.Bool.{Bool, true, false}
use mathlib.Core.List.{List, [], ◌∷◌, ◌++◌, append_assoc, append-nil}
use Prim.Native.Nat.{ℕ, suc, ◌+◌, ◌≤◌}
use native.Mathlib.Omega.{arith}
use borrow.Author.Tests.{eqb-false}
use lib.Dec.{T}
use lib.ListN.{length, take, replicate, length-append}
use Rattle.rules.specs.TheWord.{Typed, most_bytes, new_word, word_of}
use Rattle.rules.specs.KeyRoles.{is_key, type, type_list}
use Rattle.rules.specs.CodePoints.{shown}
use Rattle.rules.specs.Decision.{decision, handed_back}
use Rattle.rules.specs.Refusals.{is_mode, refusal}
use Rattle.rules.specs.WhatComesBack.{Written, typed, type_all, commit_call, commit_or, commit, granted_or, commit_answer}
use Rattle.rules.specs.Drill.{newline}
use Rattle.rules.specs.AnswersInNumbers.{answered, write_says}
use Rattle.rules.specs.declared.Refusal.{Refusal}
use Rattle.rules.specs.declared.Decision.{Decision}
use Rattle.rules.specs.declared.Decision.TheVariants.{Keep, Restore}
use Rattle.rules.specs.declared.TypeAll.{TypeAll}
use Rattle.rules.proofs.StaysInRange.{read_front}
use Rattle.rules.proofs.NotRefused.{typed_in_range, typed_word}
use Rattle.rules.proofs.TextFits.{text_fits}
use Rattle.rules.proofs.Commits.{shown_is_granted}
use Rattle.rules.proofs.Counts.{counts_add_up}
use Rattle.output.specs.Front.{put}
use Rattle.output.proofs.Rooms.{no_room, has_room}
use Rattle.recording.specs.Recordings.{is_space, in_word, onward, Recorded}
use Rattle.recording.specs.declared.Progress.{Progress}
use Rattle.recording.specs.declared.KeyPress.{KeyPress}
use Rattle.recording.proofs.Presses.{IsFine, has_room as room_in_word}
use Rattle.recording.proofs.Openings.{opened}
use Rattle.recording.proofs.Readings.{met_press}
use Rattle.replay.specs.Replays.{last_word, words_from, committed_line, if_kept, if_restored, of_words, milliseconds, summary, Replayed, summary_if, answered_by, refused_replay, of_recorded, replayed}
use Rattle.replay.proofs.Passing.{all_and, is_allowed}
use Rattle.replay.specs.declared.ReplayAnswer.{ReplayAnswer}
use Rattle.promises.specs.ContractsAllow.{TypeAllows, ShowAllows, CommitAllows}
use Rattle.promises.specs.RecordedContracts.{ReplayAllows}
use Rattle.promises.specs.EachKey.{AcceptedKeys}
use Rattle.promises.specs.Recorded.{Walk, ended, pressed, Reads, BrokenOff, Lines, no_word, word_and_more, EveryDrillTyped, ReplayIsTyping, ReplayTooShort, ReplayRefuses, keys_in, AddsUp, SummaryAddsUp}
use Rattle.promises.specs.Demands.{Possible}
use Rattle.promises.proofs.AsDefined.{handed_back_law, begun_as, pressed_as, replay_answer, replay_output}
use Rattle.promises.proofs.EachKey.{accepted, after_the_list}
use Rattle.promises.proofs.Recorded.{read_as, broken_as}

-- the keys of a typed word are the keys that were typed
keys_behind : (z : Typed) (ks : List ℕ) → (type_list z ks).keys ≡ z.keys ++ ks
keys_behind z [] = sym (append-nil z.keys)
keys_behind z (k ∷ ks) = keys_behind (type z k) ks ∙ append_assoc z.keys (k ∷ []) ks

-- commit of the shown text hands back what the decision says
when_granted : (m : ℕ) (ks text : List ℕ) → commit_answer m ks text ≡ (Ok tt) → commit m ks text ≡ handed_back (decision (typed m ks)) text ks
unfolding commit_answer commit
when_granted m ks text = go (refusal (commit_call m ks text))
  where
    go : (o : Option Refusal) → granted_or o ≡ (Ok tt) → commit_or o m ks text ≡ handed_back (decision (typed m ks)) text ks
    go None e = refl
    go (Some r) e = let z : ◌≡◌ {A = ℕ} 0 1 = cc in absurd (omega arith)

-- a word: whatever typing its keys, showing it and committing the text gives is its line
module _ (m : ℕ) (ks : List ℕ) (ok : AcceptedKeys m ks) where
  abbrev its_text : List ℕ
  its_text = shown (typed m ks).state

  text_long : length its_text ≤ most_bytes
  text_long =
      let all = accepted m ks ok in
      subst (λ (z : Typed). length (shown z.state) ≤ most_bytes) (typed_word m ks all) (text_fits (type_all m ks).word (typed_in_range m ks all))

  of_its_text : commit m ks its_text ≡ handed_back (decision (typed m ks)) its_text (typed m ks).keys
  of_its_text =
      when_granted m ks its_text (shown_is_granted m ks ok.mode ok.few ok.keys) ∙ ap (handed_back (decision (typed m ks)) its_text) (sym (keys_behind (word_of (new_word m)) ks))

  its_line : {t : TypeAll} {before after part : List ℕ} {a : Result ℕ Refusal} {n : ℕ} → TypeAllows m ks t → most_bytes ≤ length before → ShowAllows t.word before a after → write_says a ≡ answered (n ∷ [])
      → CommitAllows m ks (take n after) part → (text : List ℕ) → part ++ (newline ∷ text) ≡ committed_line (typed m ks) ++ text
  its_line {t = t} {before = before} {n = n} ty room sh e c text =
      let written = (after_the_list m ks t ok ty).1.text (omega (arith, room, text_long)) sh in
      let long = sym written.0 ∙ e in
      let n_long : length its_text ≡ n = cc in
      let front = ap (take n) written.1 ∙ read_front its_text before n n_long in
      let part_is = handed_back_law c ∙ ap (commit m ks) front ∙ of_its_text in
      ap (λ (bs : List ℕ). bs ++ (newline ∷ text)) part_is ∙ sym (append_assoc (handed_back (decision (typed m ks)) its_text (typed m ks).keys) (newline ∷ []) text)

-- words, each of them accepted
data EachAccepted (m : ℕ) : List (List ℕ) → Type 0 where
  no_more : EachAccepted m []
  one_more : {ks : List ℕ} {kss : List (List ℕ)} → AcceptedKeys m ks → EachAccepted m kss → EachAccepted m (ks ∷ kss)

its_lines : (m : ℕ) {kss : List (List ℕ)} {text : List ℕ} → EachAccepted m kss → Lines m kss text → text ≡ (of_words m kss).text
its_lines m no_more no_word = refl
its_lines m (one_more {ks = ks} ok more) (word_and_more {text = text} t room s e c l) = its_line m ks ok t room s e c text ∙ ap (λ (bs : List ℕ). committed_line (typed m ks) ++ bs) (its_lines m more l)

module _ (m : ℕ) (mode : T (is_mode m)) where
  -- the word that has begun
  record HasBegun (p : Progress) (ks : List ℕ) : Type 0 where
    pub in_mode : p.mode ≡ m
    pub so_many : p.in_word ≡ length ks
    pub ok : AcceptedKeys m ks

  abbrev no_keys : AcceptedKeys m []
  no_keys = record { mode = mode; few = omega arith; keys = tt }

  the_last : (ks : List ℕ) → AcceptedKeys m ks → EachAccepted m (last_word ks)
  the_last [] ok = no_more
  the_last (k ∷ ks) ok = one_more ok no_more

  module _ (p : Progress) (ks : List ℕ) (x : KeyPress) (begun : HasBegun p ks) (fine : IsFine p x) where
    a_space : is_space x.key ≡ true → HasBegun (onward p x) []
    a_space e = record { in_mode = begun.in_mode; so_many = ap (λ (b : Bool). in_word b p.in_word) e; ok = no_keys }

    a_key : is_space x.key ≡ false → HasBegun (onward p x) (ks ++ (x.key ∷ []))
    a_key e =
        let long = length-append ks (x.key ∷ []) in
        record {
          in_mode = begun.in_mode;
          so_many = ap (λ (b : Bool). in_word b p.in_word) e ∙ omega (arith, long, begun.so_many);
          ok = record {
            mode = mode;
            few = omega (arith, long, begun.so_many, room_in_word p x.key fine.room (eqb-false x.key 32 e));
            keys = all_and (is_key m) ks x.key begun.ok.keys (subst (λ (n : ℕ). T (is_key n x.key)) begun.in_mode (is_allowed p x fine e));
          };
        }

    press_more : (xs : List KeyPress) → ((ls : List ℕ) → HasBegun (onward p x) ls → EachAccepted m (words_from ls xs)) → EachAccepted m (words_from ks (x ∷ xs))
    press_more xs more = go (is_space x.key) refl
      where
        go : (c : Bool) → is_space x.key ≡ c → EachAccepted m (elim c [ true ↦ ks ∷ words_from [] xs | false ↦ words_from (ks ++ (x.key ∷ [])) xs ])
        go true e = one_more begun.ok (more [] (a_space e))
        go false e = more (ks ++ (x.key ∷ [])) (a_key e)

  each_accepted : {s : List ℕ} {at : ℕ} {p : Progress} {xs : List KeyPress} → Walk s at p xs → (ks : List ℕ) → HasBegun p ks → EachAccepted m (words_from ks xs)
  each_accepted (ended a e) ks begun = the_last ks begun.ok
  each_accepted {s = s} {at = at} {p = p} (pressed {x = x} {xs = xs} a e w) ks begun =
      let met = met_press s at p (pressed_as a) x e in
      press_more p ks x begun met.fine xs (λ ls b. each_accepted w ls (subst (λ (q : Progress). HasBegun q ls) (sym met.moved) b))

words_accepted : (s : List ℕ) (m : ℕ) (xs : List KeyPress) → Reads s m xs → EachAccepted m (words_from [] xs)
words_accepted s m xs d =
    let o = opened s d.begun (sym (begun_as d.begins)) in
    let mode = subst (λ (n : ℕ). T (is_mode n)) d.mode o.mode in
    each_accepted m mode d.walk [] (record { in_mode = d.mode; so_many = ap (λ (p : Progress). p.in_word) o.none_yet_law; ok = no_keys m mode })

-- accepted words can be typed, shown and committed
some_lines : Possible → (m : ℕ) {kss : List (List ℕ)} → EachAccepted m kss → (text : List ℕ) × Lines m kss text
some_lines can m no_more = ([], no_word)
some_lines can m (one_more {ks = ks} ok more) =
    let out : List ℕ = replicate most_bytes 0 in
    let room : most_bytes ≤ length out = omega arith in
    let (t, typing) = can.typing m ks in
    let (a, after, showing) = can.showing t.word out in
    let (part, committing) = can.committing m ks (take (length (its_text m ks ok)) after) in
    let (text, l) = some_lines can m more in
    (part ++ (newline ∷ text), word_and_more typing room showing ((after_the_list m ks t ok typing).1.text (text_long m ks ok) showing).0 committing l)

pub every_drill_typed : Possible → EveryDrillTyped
every_drill_typed can s m xs d = some_lines can m (words_accepted s m xs d)

-- a replay of a recording that is read
module _ (s : List ℕ) (m : ℕ) (xs : List KeyPress) (d : Reads s m xs) (before : List ℕ) where
  abbrev answered_of : List ℕ → Replayed
  answered_of text = answered_by (put text before) (summary (of_words m (words_from [] xs)) (milliseconds xs))

  of_its_words : replayed s before ≡ answered_of (of_words m (words_from [] xs)).text
  unfolding replayed
  of_its_words = ap (λ (q : Recorded). of_recorded q before) (read_as s d)

  module _ (text : List ℕ) (l : Lines m (words_from [] xs) text) (w : Written) (e : put text before ≡ w) where
    of_its_lines : replayed s before ≡ answered_by w (summary (of_words m (words_from [] xs)) (milliseconds xs))
    of_its_lines = of_its_words ∙ ap answered_of (sym (its_lines m (words_accepted s m xs d) l)) ∙ ap (λ (v : Written). answered_by v (summary (of_words m (words_from [] xs)) (milliseconds xs))) e

module _ {s before : List ℕ} {r : ReplayAnswer} {after : List ℕ} (a : ReplayAllows s before r after) (x : Replayed) (e : replayed s before ≡ x) where
  its_answer : r.answer ≡ x.result.answer
  its_answer = ap (λ (y : ReplayAnswer). y.answer) (replay_answer a) ∙ ap (λ (y : Replayed). y.result.answer) e

  its_summary : r.summary ≡ x.result.summary
  its_summary = ap (λ (y : ReplayAnswer). y.summary) (replay_answer a) ∙ ap (λ (y : Replayed). y.result.summary) e

  its_output : after ≡ x.output
  its_output = replay_output a ∙ ap (λ (y : Replayed). y.output) e

pub replay_is_typing : ReplayIsTyping
replay_is_typing s m xs text before after r d l room a =
    let e = of_its_lines s m xs d before text l _ (has_room text before room) in
    (its_answer a _ e, its_output a _ e)

pub replay_too_short : ReplayTooShort
replay_too_short s m xs text before after r d l short a =
    let e = of_its_lines s m xs d before text l _ (no_room text before short) in
    (its_answer a _ e, its_output a _ e, its_summary a _ e)

of_broken : (s : List ℕ) (x : Refusal) (before : List ℕ) → BrokenOff s x → replayed s before ≡ refused_replay x before
unfolding replayed
of_broken s x before b = ap (λ (q : Recorded). of_recorded q before) (broken_as s b)

pub replay_refuses : ReplayRefuses
replay_refuses s x before after r b a =
    let e = of_broken s x before b in
    (its_answer a _ e, its_output a _ e, its_summary a _ e)

-- the sums over words
each_word : (m : ℕ) (kss : List (List ℕ)) → (of_words m kss).words ≡ length kss
each_word m [] = refl
each_word m (ks ∷ kss) = omega (arith, each_word m kss)

one_of_two : (d : Decision) → if_kept d + if_restored d ≡ 1
one_of_two Keep = refl
one_of_two Restore = refl

kept_or_restored : (m : ℕ) (kss : List (List ℕ)) → (of_words m kss).kept + (of_words m kss).restored ≡ (of_words m kss).words
kept_or_restored m [] = refl
kept_or_restored m (ks ∷ kss) = omega (arith, one_of_two (decision (typed m ks)), kept_or_restored m kss)

abbrev keys_of : List (List ℕ) → ℕ
keys_of [] = 0
keys_of (ks ∷ kss) = length ks + keys_of kss

each_key : (m : ℕ) (kss : List (List ℕ)) → (of_words m kss).acted + (of_words m kss).undone + (of_words m kss).appended ≡ keys_of kss
each_key m [] = refl
each_key m (ks ∷ kss) = omega (arith, counts_add_up m ks, each_key m kss)

last_keys : (ks : List ℕ) → keys_of (last_word ks) ≡ length ks
last_keys [] = refl
last_keys (k ∷ ks) = omega arith

all_keys : (ks : List ℕ) (xs : List KeyPress) → keys_of (words_from ks xs) ≡ length ks + keys_in xs
all_keys ks [] = omega (arith, last_keys ks)
all_keys ks (x ∷ xs) = go (is_space x.key) (all_keys [] xs) (all_keys (ks ++ (x.key ∷ [])) xs)
  where
    go : (c : Bool) → keys_of (words_from [] xs) ≡ 0 + keys_in xs → keys_of (words_from (ks ++ (x.key ∷ [])) xs) ≡ length (ks ++ (x.key ∷ [])) + keys_in xs
        → keys_of (elim c [ true ↦ ks ∷ words_from [] xs | false ↦ words_from (ks ++ (x.key ∷ [])) xs ]) ≡ length ks + elim c [ true ↦ keys_in xs | false ↦ suc (keys_in xs) ]
    go true e f = omega (arith, e)
    go false e f = omega (arith, f, length-append ks (x.key ∷ []))

pub summary_adds_up : SummaryAddsUp
summary_adds_up s m xs before after r n d a e =
    let w = of_its_words s m xs d before in
    let all = summary (of_words m (words_from [] xs)) (milliseconds xs) in
    let wrote = sym (its_answer a _ w) ∙ e in
    let is : r.summary ≡ all = its_summary a _ w ∙ ap (λ (v : Result ℕ Refusal). summary_if v all) wrote in
    subst (AddsUp xs) (sym is) (record {
      words = each_word m (words_from [] xs);
      kept_or_restored = kept_or_restored m (words_from [] xs);
      keys = omega (arith, each_key m (words_from [] xs), all_keys [] xs);
      time = refl;
    })
