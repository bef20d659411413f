-- Recorded drills: the statements of specs/Recorded.antt on numbers, the reader, walks and both round trips, and that the contracts leave one result and some result.
use Rattle.std.specs.Prelude.{Some, Result, Ok, Err}
use mathlib.Core.Path.{◌≡◌, refl, sym, ap, ap₂, subst, ◌∙◌}
use mathlib.Core.List.{List, [], ◌∷◌, ◌++◌, map}
use mathlib.Core.Logic.{◌⊎◌, inl, inr}
use Prim.Native.Nat.{ℕ, zero, suc, ◌-◌, ◌/◌, ◌%◌, ◌≤◌, ◌<◌}
use native.Mathlib.Omega.{arith}
use lib.ListN.{length, take, drop, replicate}
use lib.Seq.{take-append_seam, take_at}
use Rattle.rules.specs.WhatComesBack.{Written}
use Rattle.rules.specs.declared.Refusal.{Refusal}
use Rattle.groups.specs.Numbers.{most_groups, number, written, held}
use Rattle.groups.specs.declared.Groups.{Groups}
use Rattle.groups.proofs.BothWays.{number_back, written_back, number_groups}
use Rattle.recording.specs.Recordings.{step_at, begin, Reading, broken, presses, before as in_front, refused_at, drill, in_mode, recorded_after, recorded}
use Rattle.recording.specs.Drills.{press_in, number_of, written_drill}
use Rattle.recording.specs.declared.Progress.{Progress}
use Rattle.recording.specs.declared.KeyPress.{KeyPress}
use Rattle.recording.specs.declared.Stepped.{Stepped}
use Rattle.recording.specs.declared.Begun.{Begun}
use Rattle.recording.proofs.Presses.{is_byte}
use Rattle.recording.proofs.Meets.{Meets, the_end, a_refusal, a_press, meets, bytes_behind}
use Rattle.recording.proofs.Readings.{rest_from, enough, met_press, met_refusal, met_end}
use Rattle.recording.proofs.Writers.{wrote_read, read_wrote}
use Rattle.reader.specs.declared.Reader.{Reader}
use Rattle.replay.specs.Replays.{replayed}
use Rattle.promises.specs.RecordedContracts.{BeginAllows, PressAllows}
use Rattle.promises.specs.Recorded.{NumbersBack, BytesBack, ReaderSteps, NoPress, StandsStill, Walk, ended, pressed, Stops, refused, after_press, Reads, BrokenOff, at_the_mode, at_a_step, EveryRecording, WriteRead, ReadWrite, RecordedTight, RecordedPossible}
use Rattle.promises.proofs.AsDefined.{number_read, number_written, begun_as, pressed_as, recorded_answer, recorded_output, next_step, next_reader, replay_answer, replay_output}
use Rattle.promises.proofs.Box.{holds, lends}

-- numbers
its_groups : (n : ℕ) (g : Groups) → g ≡ held (written n) → take g.count g.bytes ≡ written n
its_groups n g e = ap (λ (h : Groups). take h.count h.bytes) e ∙ take-append_seam (written n) (replicate (most_groups - length (written n)) 0)

pub numbers_back : NumbersBack
numbers_back n g bs rest at a below w here r =
    let e = number_written w in
    let front : drop at bs ≡ written n ++ rest = here ∙ ap (λ (gs : List ℕ). gs ++ rest) (its_groups n g e) in
    number_read r ∙ (ap number front ∙ number_back n below rest) ∙ ap (λ (h : Groups). (Some (record { value = n; groups = h.count }))) (sym e)

pub bytes_back : BytesBack
bytes_back bs at n g all r w =
    let there = sym (number_read r) in
    ap (take n.groups) (written_back (drop at bs) n there (bytes_behind at bs all)) ∙
    take_at (written n.value) (drop n.groups (drop at bs)) n.groups (sym (number_groups (drop at bs) n there)) ∙ sym (its_groups n.value g (number_written w))

-- the reader
stays : (s : List ℕ) (at : ℕ) (p : Progress) (t : Stepped) → Meets s at p t → NoPress t.press → (t.at ≡ at) × (t.progress ≡ p)
stays s at p t (the_end l) e = (refl, refl)
stays s at p t (a_refusal r l) e = (refl, refl)
stays s at p t (a_press x next c k i b) (inl e) = let z : ◌≡◌ {A = ℕ} 0 1 = cc in absurd (omega arith)
stays s at p t (a_press x next c k i b) (inr (r, e)) = let z : ◌≡◌ {A = ℕ} 0 1 = cc in absurd (omega arith)

pub stands_still : StandsStill
stands_still before after p t a e =
    let s = before.recording.now in
    let still = stays s before.at p t (subst (Meets s before.at p) (sym (next_step a)) (meets s before.at p)) e in
    (next_reader a ∙ ap (λ (n : ℕ). let r : Reader = record { recording = before.recording; at = n } in r) still.0, still.1)

-- whatever is walked is what the whole reading says
module _ (s : List ℕ) where
  walked : {at : ℕ} {p : Progress} {xs : List KeyPress} → Walk s at p xs → rest_from s at p ≡ presses xs
  walked {at = at} {p = p} (ended a e) = met_end s at p (pressed_as a) e
  walked {at = at} {p = p} (pressed {t = t} {x = x} a e w) =
      let m = met_press s at p (pressed_as a) x e in
      m.read ∙ ap (λ (q : Progress). in_front x (rest_from s t.at q)) (sym m.moved) ∙ ap (in_front x) (walked w)

  stopped : {at : ℕ} {p : Progress} {r : Refusal} → Stops s at p r → rest_from s at p ≡ broken r
  stopped {at = at} {p = p} (refused {r = r} a e) = met_refusal s at p (pressed_as a) r e
  stopped {at = at} {p = p} (after_press {t = t} {x = x} a e w) =
      let m = met_press s at p (pressed_as a) x e in
      m.read ∙ ap (λ (q : Progress). in_front x (rest_from s t.at q)) (sym m.moved) ∙ ap (in_front x) (stopped w)

  from_begun : (b : Begun) → BeginAllows s (Ok b) → (r : Reading) → rest_from s b.at b.progress ≡ r → recorded s ≡ in_mode b.progress.mode r
  unfolding recorded
  from_begun b a r e =
      ap (λ (x : Result Begun Refusal). recorded_after x s) (sym (begun_as a)) ∙
      ap (in_mode b.progress.mode) (enough s (length s) (length s - b.at) b.at b.progress (omega arith) (omega arith) ∙ e)

  pub read_as : {m : ℕ} {xs : List KeyPress} → Reads s m xs → recorded s ≡ drill m xs
  read_as {xs = xs} d = from_begun d.begun d.begins (presses xs) (walked d.walk) ∙ ap (λ (n : ℕ). drill n xs) d.mode

  pub broken_as : {r : Refusal} → BrokenOff s r → recorded s ≡ refused_at r
  unfolding recorded
  broken_as (at_the_mode a) = ap (λ (x : Result Begun Refusal). recorded_after x s) (sym (begun_as a))
  broken_as {r = r} (at_a_step {b = b} a w) = from_begun b a (broken r) (stopped w)

  -- from any place there is a walk to the end, or to a refusal
  possible_press : (at : ℕ) (p : Progress) → PressAllows s at p (step_at s at p)
  possible_press at p =
      record { lifetimes = ([], tt); args = (holds s, (at, (p, tt))); exit = (holds s, (at, (p, tt))); of_recording = refl; of_place = refl; of_progress = refl; post = refl }

  possible_begin : BeginAllows s (begin s)
  possible_begin = record { lifetimes = ([], tt); args = (holds s, tt); exit = (holds s, tt); of_recording = refl; post = refl }

  abbrev Goes : ℕ → Progress → Type 0
  Goes at p = ((xs : List KeyPress) × Walk s at p xs) ⊎ ((r : Refusal) × Stops s at p r)

  and_before : {at : ℕ} {p : Progress} {t : Stepped} {x : KeyPress} → PressAllows s at p t → t.press ≡ Ok (Some x) → Goes t.at t.progress → Goes at p
  and_before {x = x} a e (inl (xs, w)) = inl (x ∷ xs, pressed a e w)
  and_before a e (inr (r, w)) = inr (r, after_press a e w)

  one_step : (at : ℕ) (p : Progress) (t : Stepped) → PressAllows s at p t → Meets s at p t → ((next : ℕ) (q : Progress) → at < next → next ≤ length s → Goes next q) → Goes at p
  one_step at p t a (the_end l) more = inl ([], ended a refl)
  one_step at p t a (a_refusal r l) more = inr (r, refused a refl)
  one_step at p t a (a_press x next c l i b) more = and_before a refl (more t.at t.progress (omega arith) i)

  goes : (n at : ℕ) (p : Progress) → length s - at ≤ n → Goes at p
  goes zero at p h = one_step at p (step_at s at p) (possible_press at p) (meets s at p) (λ next q l i. absurd (omega arith))
  goes (suc n) at p h = one_step at p (step_at s at p) (possible_press at p) (meets s at p) (λ next q l i. goes n next q (omega arith))

  by_begin : (b : Result Begun Refusal) → BeginAllows s b → ((m : ℕ) × (xs : List KeyPress) × Reads s m xs) ⊎ ((r : Refusal) × BrokenOff s r)
  by_begin (Err r) a = inr (r, at_the_mode a)
  by_begin (Ok b) a = go (goes (length s) b.at b.progress (omega arith))
    where
      go : Goes b.at b.progress → ((m : ℕ) × (xs : List KeyPress) × Reads s m xs) ⊎ ((r : Refusal) × BrokenOff s r)
      go (inl (xs, w)) = inl (b.progress.mode, xs, record { begun = b; begins = a; mode = refl; walk = w })
      go (inr (r, w)) = inr (r, at_a_step a w)

pub every_recording : EveryRecording
every_recording s = by_begin s (begin s) (possible_begin s)

-- one drill is read
same_drill : {m m' : ℕ} {xs xs' : List KeyPress} → drill m' xs' ≡ drill m xs → (m' ≡ m) × (xs' ≡ xs)
same_drill e = (cc, cc)

module _ (s : List ℕ) (m : ℕ) (xs : List KeyPress) (is : recorded s ≡ drill m xs) where
  only_this : (m' : ℕ) (xs' : List KeyPress) → Reads s m' xs' → (m' ≡ m) × (xs' ≡ xs)
  only_this m' xs' d = same_drill (sym (read_as s d) ∙ is)

  is_read : ((m' : ℕ) × (xs' : List KeyPress) × Reads s m' xs') ⊎ ((r : Refusal) × BrokenOff s r) → Reads s m xs
  is_read (inl (m', xs', d)) = let e = only_this m' xs' d in subst (λ (n : ℕ). Reads s n xs) e.0 (subst (Reads s m') e.1 d)
  is_read (inr (r, b)) = let f : refused_at r ≡ drill m xs = sym (broken_as s b) ∙ is in let z : ◌≡◌ {A = ℕ} 0 1 = cc in absurd (omega arith)

pub write_read : WriteRead
write_read m ns before after n a =
    let e = wrote_read m ns before n after (recorded_answer a) (recorded_output a) in
    (is_read (take n after) m (map press_in ns) e (every_recording (take n after)), only_this (take n after) m (map press_in ns) e)

-- a press as one number is the press again
press_back : (x : KeyPress) → x.key < 256 → press_in (number_of x) ≡ x
press_back x h =
    let time : number_of x / 256 ≡ x.milliseconds = omega arith in
    let key : number_of x % 256 ≡ x.key = omega arith in
    λ i. record { milliseconds = time i; key = key i }

presses_back : {s : List ℕ} {at : ℕ} {p : Progress} {xs : List KeyPress} → Walk s at p xs → map press_in (map number_of xs) ≡ xs
presses_back (ended a e) = refl
presses_back {s = s} {at = at} {p = p} (pressed {x = x} a e w) =
    let m = met_press s at p (pressed_as a) x e in
    ap₂ (λ (y : KeyPress) (ys : List KeyPress). y ∷ ys) (press_back x (is_byte p x.key m.fine.allowed)) (presses_back w)

pub read_write : ReadWrite
read_write s m xs before after r all d room a =
    let e = read_wrote s all m xs (read_as s d) (map number_of xs) before (presses_back d.walk) room in
    (recorded_answer a ∙ ap (λ (w : Written). w.answer) e, recorded_output a ∙ ap (λ (w : Written). w.output) e)

-- a step of the reader is one of its recording
pub reader_steps : ReaderSteps
reader_steps before after p t a =
    let s = before.recording.now in (
      subst (PressAllows s before.at p) (sym (next_step a)) (possible_press s before.at p),
      next_reader a,
    )

pub recorded_tight : RecordedTight
recorded_tight =
    record {
      reading_a_number = λ bs at r r' a b. number_read a ∙ sym (number_read b);
      writing_a_number = λ n g g' a b. number_written a ∙ sym (number_written b);
      beginning = λ s r r' a b. begun_as a ∙ sym (begun_as b);
      pressing = λ s at p t t' a b. pressed_as a ∙ sym (pressed_as b);
      recording = λ m ns before after after' r r' a b. (recorded_answer a ∙ sym (recorded_answer b), recorded_output a ∙ sym (recorded_output b));
      reading_on = λ before after after' p t t' a b.
          let e = next_step a ∙ sym (next_step b) in
          (e, next_reader a ∙ ap (λ (u : Stepped). let r : Reader = record { recording = before.recording; at = u.at } in r) e ∙ sym (next_reader b));
      replaying = λ s before after after' r r' a b. (replay_answer a ∙ sym (replay_answer b), replay_output a ∙ sym (replay_output b));
    }

pub recorded_possible : RecordedPossible
recorded_possible =
    record {
      reading_a_number = λ bs at. (
        (number (drop at bs)),
        record { lifetimes = ([], tt); args = (holds bs, (at, tt)); exit = (holds bs, (at, tt)); of_bytes = refl; of_place = refl; post = refl },
      );
      writing_a_number = λ n. (held (written n), record { lifetimes = tt; exit = (n, tt); post = refl });
      beginning = λ s. (begin s, possible_begin s);
      pressing = λ s at p. (step_at s at p, possible_press s at p);
      recording = λ m ns before. (
        (written_drill m ns before).answer,
        (written_drill m ns before).output,
        record {
          lifetimes = ([], ([], tt));
          args = (m, (holds ns, (lends before, tt)));
          exit = (m, (holds ns, (lends (written_drill m ns before).output, tt)));
          of_mode = refl;
          of_presses = refl;
          at_entry = refl;
          at_exit = refl;
          post = (refl, refl);
        },
      );
      reading_on = λ before p. let t = step_at before.recording.now before.at p in (
        t,
        record { recording = before.recording; at = t.at },
        record {
          lifetimes = ([], ([], tt));
          args = (record { ref_ptr = (0, 0); ghost_name = 0; now = before }, (p, tt));
          exit = (record { ref_ptr = (0, 0); ghost_name = 0; now = record { recording = before.recording; at = t.at } }, (p, tt));
          at_entry = refl;
          of_progress = refl;
          at_exit = refl;
          post = (refl, refl, refl);
        },
      );
      replaying = λ s before. (
        (replayed s before).result,
        (replayed s before).output,
        record {
          lifetimes = ([], ([], tt));
          args = (holds s, (lends before, tt));
          exit = (holds s, (lends (replayed s before).output, tt));
          of_recording = refl;
          at_entry = refl;
          at_exit = refl;
          post = (refl, refl);
        },
      );
    }
