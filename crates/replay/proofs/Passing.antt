-- How far a pass has come: the words so far, the keys of the word that has begun, and that what is still to be read ends as the whole does.
use Rattle.std.specs.Prelude.{Ok, Err}
use mathlib.Core.Path.{◌≡◌, refl, sym, ap, subst, ◌∙◌}
use mathlib.Core.Bool.{Bool, true, false, not, ◌||◌}
use mathlib.Core.List.{List, [], ◌∷◌, ◌++◌, append-nil}
use Prim.Native.Nat.{ℕ, suc, ◌+◌, ◌*◌, ◌-◌, ◌≤◌, ◌<◌}
use native.Mathlib.Omega.{arith}
use borrow.Author.Tests.{eqb-false}
use lib.Dec.{T}
use lib.Ieee.Fits.{and_i, and_l, and_r}
use lib.Seq.{take-suc, take-set-le, get_or-set_same}
use lib.ListN.{length, take, set, replicate, length-set, length-append, length-take}
use Rattle.rules.specs.TheWord.{at_front}
use Rattle.rules.specs.KeyRoles.{is_key}
use Rattle.rules.specs.Refusals.{all, is_mode}
use Rattle.rules.specs.Decision.{decision}
use Rattle.rules.specs.WhatComesBack.{typed}
use Rattle.rules.specs.declared.Refusal.{Refusal}
use Rattle.recording.specs.Recordings.{is_space, in_word, onward, begin, broken, presses, before}
use Rattle.recording.specs.declared.Progress.{Progress}
use Rattle.recording.specs.declared.KeyPress.{KeyPress}
use Rattle.recording.specs.declared.Begun.{Begun}
use Rattle.recording.proofs.Presses.{IsFine, has_room}
use Rattle.recording.proofs.Openings.{opened}
use Rattle.recording.proofs.Readings.{rest_from, enough}
use Rattle.recording.proofs.Needed.{put_more}
use Rattle.replay.specs.Replays.{last_word, committed_line, Tally, of_word, nothing, together, of_words}
use Rattle.replay.specs.Passes.{total_of, Outcome, finished, outcome, throughout, found_of, passage_of, LinesPut, FitsKeys, line_at, some_keys, total_if, keys_unless, output_if}
use Rattle.replay.specs.declared.Found.{Found}
use Rattle.replay.proofs.Totals.{one_or_none, has_room as line_there, as_long}
use Rattle.replay.proofs.Words.{line_long, its_counts}
use Rattle.replay.proofs.Tallies.{with_one, with_last, at_space, at_key}

pub record Going (s out₀ : List ℕ) (at₀ : ℕ) (p₀ : Progress) (out : List ℕ) (at : ℕ) (p : Progress) (keys : List ℕ) (total : Found) : Type 0 where
  pub tally : Tally
  pub is_total : total ≡ total_of tally
  pub same : outcome p.mode tally (take p.in_word keys) p.milliseconds (rest_from s at p) ≡ outcome p₀.mode nothing [] p₀.milliseconds (rest_from s at₀ p₀)
  pub put : length tally.text ≤ length out₀ → out ≡ at_front tally.text out₀
  pub long : length out ≡ length out₀
  pub array : length keys ≡ 32
  pub mode : T (is_mode p.mode)
  pub few : p.in_word ≤ 32
  pub allowed : T (all (is_key p.mode) (take p.in_word keys))
  pub short : p.milliseconds < 4294967296
  pub inside : at ≤ length s
  -- no more bytes than two for each of the recording, and no count over its place
  pub written : total.written + 3 * p.in_word ≤ 2 * at
  pub words : total.summary.words ≤ at
  pub kept : total.summary.kept ≤ at
  pub restored : total.summary.restored ≤ at
  pub acted : total.summary.acted + p.in_word ≤ at
  pub undone : total.summary.undone + p.in_word ≤ at
  pub appended : total.summary.appended + p.in_word ≤ at

-- no sum of the next word wraps
pub fits : {s out₀ : List ℕ} {at₀ : ℕ} {p₀ : Progress} {out : List ℕ} {at : ℕ} {p : Progress} {keys : List ℕ} {total : Found} → length s * 1 < 9223372036854775808 → Going s out₀ at₀ p₀ out at p keys total → FitsKeys total p.in_word
fits h g = record {
  written = omega (arith, g.written, g.inside);
  words = omega (arith, g.words, g.inside);
  kept = omega (arith, g.kept, g.inside);
  restored = omega (arith, g.restored, g.inside);
  acted = omega (arith, g.acted, g.inside);
  undone = omega (arith, g.undone, g.inside);
  appended = omega (arith, g.appended, g.inside);
}

-- a line more in its place
line_put : {s out₀ : List ℕ} {at₀ : ℕ} {p₀ : Progress} {out : List ℕ} {at : ℕ} {p : Progress} {keys : List ℕ} {total : Found} (g : Going s out₀ at₀ p₀ out at p keys total) (line : List ℕ)
    {out' : List ℕ} → out' ≡ line_at total.written line out → length (g.tally.text ++ line) ≤ length out₀ → out' ≡ at_front (g.tally.text ++ line) out₀
line_put {out₀ = out₀} {out = out} {total = total} g line o h =
    let all = length-append g.tally.text line in
    let so_far = ap (λ (u : Found). u.written) g.is_total in
    o ∙ sym (line_there total.written line out (omega (arith, h, all, so_far, g.long))) ∙
    put_more g.tally.text line out₀ out 0 total.written (omega (arith, h, all)) (omega (arith, so_far), g.put (omega (arith, h, all)))

-- an allowed key behind allowed ones
pub all_and : (f : ℕ → Bool) (ks : List ℕ) (k : ℕ) → T (all f ks) → T (f k) → T (all f (ks ++ (k ∷ [])))
all_and f [] k t u = and_i (f k) true u tt
all_and f (l ∷ ks) k t u = and_i (f l) (all f (ks ++ (k ∷ []))) (and_l (f l) (all f ks) t) (all_and f ks k (and_r (f l) (all f ks) t) u)

pub is_allowed : (p : Progress) (x : KeyPress) → IsFine p x → is_space x.key ≡ false → T (is_key p.mode x.key)
is_allowed p x fine e = by (is_key p.mode x.key) (sym (ap (λ (b : Bool). not (b || is_key p.mode x.key)) e) ∙ fine.allowed)
  where
    by : (k : Bool) → not (false || k) ≡ false → T k
    by true f = tt
    by false f = let z : ◌≡◌ {A = ℕ} 0 1 = cc in absurd (omega arith)

-- a press more
module _ {s out₀ : List ℕ} {at₀ : ℕ} {p₀ : Progress} {out : List ℕ} {at : ℕ} {p : Progress} {keys : List ℕ} {total : Found} (g : Going s out₀ at₀ p₀ out at p keys total)
    (x : KeyPress) (next : ℕ) (fine : IsFine p x) (on : at + 2 ≤ next) (within : next ≤ length s) (read : rest_from s at p ≡ before x (rest_from s next (onward p x))) where
  abbrev ks : List ℕ
  ks = take p.in_word keys

  few_keys : length ks ≡ p.in_word
  few_keys = simp length-take (omega (arith, g.array, g.few))

  after_space : is_space x.key ≡ true → (total' : Found) (keys' out' : List ℕ) → total' ≡ total_if true p.mode ks total → keys' ≡ keys_unless true keys p.in_word x.key → out' ≡ output_if true p.mode ks total out
      → Going s out₀ at₀ p₀ out' next (onward p x) keys' total'
  after_space e total' keys' out' t k o =
      let none : (onward p x).in_word ≡ 0 = ap (λ (b : Bool). in_word b p.in_word) e in
      let z = typed p.mode ks in
      let line = line_long p.mode ks g.mode (omega (arith, few_keys, g.few)) g.allowed in
      let counts = its_counts p.mode ks g.mode (omega (arith, few_keys, g.few)) g.allowed in
      record {
        tally = together g.tally (of_word z);
        is_total = t ∙ ap (λ (u : Found). total_if true p.mode ks u) g.is_total ∙ with_one g.tally p.mode ks;
        same =
            ap (λ (n : ℕ). outcome p.mode (together g.tally (of_word z)) (take n keys') (p.milliseconds + x.milliseconds) (rest_from s next (onward p x))) none ∙
            at_space p.mode g.tally ks p.milliseconds x e (rest_from s next (onward p x)) ∙ ap (outcome p.mode g.tally ks p.milliseconds) (sym read) ∙ g.same;
        put = line_put g (committed_line z) o;
        long = ap length o ∙ as_long total.written (committed_line z) out ∙ g.long;
        array = ap length k ∙ g.array;
        mode = g.mode;
        few = omega (arith, none);
        allowed = subst (λ (n : ℕ). T (all (is_key p.mode) (take n keys'))) (sym none) tt;
        short = fine.short;
        inside = within;
        written = omega (arith, none, ap (λ (u : Found). u.written) t, line, few_keys, g.written);
        words = omega (arith, ap (λ (u : Found). u.summary.words) t, g.words);
        kept = omega (arith, ap (λ (u : Found). u.summary.kept) t, g.kept, one_or_none (decision z));
        restored = omega (arith, ap (λ (u : Found). u.summary.restored) t, g.restored, one_or_none (decision z));
        acted = omega (arith, none, ap (λ (u : Found). u.summary.acted) t, counts, few_keys, g.acted);
        undone = omega (arith, none, ap (λ (u : Found). u.summary.undone) t, counts, few_keys, g.undone);
        appended = omega (arith, none, ap (λ (u : Found). u.summary.appended) t, counts, few_keys, g.appended);
      }

  set_there : p.in_word < 32 → take (suc p.in_word) (set keys p.in_word x.key) ≡ ks ++ (x.key ∷ [])
  set_there h =
      let n = p.in_word in
      let there : n < length keys = omega (arith, g.array) in
      take-suc (set keys n x.key) n 0 (omega (arith, length-set keys n x.key)) ∙
      (λ i. take-set-le n keys n x.key (omega arith) i ++ (get_or-set_same keys n x.key 0 there i ∷ []))

  after_key : is_space x.key ≡ false → (total' : Found) (keys' out' : List ℕ) → total' ≡ total_if false p.mode ks total → keys' ≡ keys_unless false keys p.in_word x.key → out' ≡ output_if false p.mode ks total out
      → Going s out₀ at₀ p₀ out' next (onward p x) keys' total'
  after_key e total' keys' out' t k o =
      let more : (onward p x).in_word ≡ suc p.in_word = ap (λ (b : Bool). in_word b p.in_word) e in
      let room = has_room p x.key fine.room (eqb-false x.key 32 e) in
      let now_keys : take (onward p x).in_word keys' ≡ ks ++ (x.key ∷ []) = (λ i. take (more i) (k i)) ∙ set_there room in
      record {
        tally = g.tally;
        is_total = t ∙ g.is_total;
        same =
            ap (λ (l : List ℕ). outcome p.mode g.tally l (p.milliseconds + x.milliseconds) (rest_from s next (onward p x))) now_keys ∙
            at_key p.mode g.tally ks p.milliseconds x e (rest_from s next (onward p x)) ∙ ap (outcome p.mode g.tally ks p.milliseconds) (sym read) ∙ g.same;
        put = λ h. o ∙ g.put h;
        long = ap length o ∙ g.long;
        array = ap length k ∙ length-set keys p.in_word x.key ∙ g.array;
        mode = g.mode;
        few = omega (arith, more, room);
        allowed = subst (λ (l : List ℕ). T (all (is_key p.mode) l)) (sym now_keys) (all_and (is_key p.mode) ks x.key g.allowed (is_allowed p x fine e));
        short = fine.short;
        inside = within;
        written = omega (arith, more, ap (λ (u : Found). u.written) t, g.written);
        words = omega (arith, ap (λ (u : Found). u.summary.words) t, g.words);
        kept = omega (arith, ap (λ (u : Found). u.summary.kept) t, g.kept);
        restored = omega (arith, ap (λ (u : Found). u.summary.restored) t, g.restored);
        acted = omega (arith, more, ap (λ (u : Found). u.summary.acted) t, g.acted);
        undone = omega (arith, more, ap (λ (u : Found). u.summary.undone) t, g.undone);
        appended = omega (arith, more, ap (λ (u : Found). u.summary.appended) t, g.appended);
      }

  pub one_more : {total' : Found} {keys' out' : List ℕ} → total' ≡ total_if (is_space x.key) p.mode ks total → keys' ≡ keys_unless (is_space x.key) keys p.in_word x.key → out' ≡ output_if (is_space x.key) p.mode ks total out
      → {q : Progress} → q ≡ onward p x → Going s out₀ at₀ p₀ out' next q keys' total'
  one_more {total'} {keys'} {out'} t k o moved = subst (λ (q : Progress). Going s out₀ at₀ p₀ out' next q keys' total') (sym moved) (go (is_space x.key) refl t k o)
    where
      go : (b : Bool) → is_space x.key ≡ b → total' ≡ total_if b p.mode ks total → keys' ≡ keys_unless b keys p.in_word x.key → out' ≡ output_if b p.mode ks total out → Going s out₀ at₀ p₀ out' next (onward p x) keys' total'
      go true e t k o = after_space e total' keys' out' t k o
      go false e t k o = after_key e total' keys' out' t k o

-- at the start: behind the mode nothing is pressed yet
module _ (s out₀ : List ℕ) (b : Begun) (e : begin s ≡ Ok b) where
  pub started : {total : Found} → total ≡ total_of nothing → Going s out₀ b.at b.progress out₀ b.at b.progress (replicate 32 0) total
  started {total} t =
      let o = opened s b e in
      let none = ap (λ (p : Progress). p.in_word) o.none_yet_law in
      record {
        tally = nothing;
        is_total = t;
        same = ap (λ (n : ℕ). outcome b.progress.mode nothing (take n (replicate 32 0)) b.progress.milliseconds (rest_from s b.at b.progress)) none;
        put = λ h. refl;
        long = refl;
        array = refl;
        mode = o.mode;
        few = omega (arith, none);
        allowed = subst (λ (n : ℕ). T (all (is_key b.progress.mode) (take n (replicate 32 0)))) (sym none) tt;
        short = omega (arith, ap (λ (p : Progress). p.milliseconds) o.none_yet_law);
        inside = o.inside;
        written = omega (arith, none, ap (λ (u : Found). u.written) t);
        words = omega (arith, ap (λ (u : Found). u.summary.words) t);
        kept = omega (arith, ap (λ (u : Found). u.summary.kept) t);
        restored = omega (arith, ap (λ (u : Found). u.summary.restored) t);
        acted = omega (arith, none, ap (λ (u : Found). u.summary.acted) t);
        undone = omega (arith, none, ap (λ (u : Found). u.summary.undone) t);
        appended = omega (arith, none, ap (λ (u : Found). u.summary.appended) t);
      }

  -- at the end, and where the recording is refused
  module _ {out : List ℕ} {at : ℕ} {p : Progress} {keys : List ℕ} {total : Found} (g : Going s out₀ b.at b.progress out at p keys total) where
    abbrev word : List ℕ
    word = take p.in_word keys

    the_whole : throughout s b ≡ outcome p.mode g.tally word p.milliseconds (rest_from s at p)
    the_whole = ap (outcome b.progress.mode nothing [] b.progress.milliseconds) (enough s (length s) (length s - b.at) b.at b.progress (omega arith) (omega arith)) ∙ sym g.same

    pub broken_off : {r : Refusal} → rest_from s at p ≡ broken r → (Err r ≡ passage_of (throughout s b)) × LinesPut (throughout s b) out₀ out
    broken_off r =
        let q = the_whole ∙ ap (outcome p.mode g.tally word p.milliseconds) r in
        (sym (ap passage_of q), subst (λ (o : Outcome). LinesPut o out₀ out) (sym q) tt)

    last_put : (ks : List ℕ) {out' : List ℕ} → out' ≡ output_if (some_keys ks) p.mode ks total out → length (together g.tally (of_words p.mode (last_word ks))).text ≤ length out₀ → out' ≡ at_front (together g.tally (of_words p.mode (last_word ks))).text out₀
    last_put [] {out'} o h = o ∙ subst (λ (l : List ℕ). length l ≤ length out₀ → out ≡ at_front l out₀) (sym (append-nil g.tally.text)) g.put h
    last_put (k ∷ ks) {out'} o h =
        subst (λ (l : List ℕ). length (g.tally.text ++ l) ≤ length out₀ → out' ≡ at_front (g.tally.text ++ l) out₀) (sym (append-nil (committed_line (typed p.mode (k ∷ ks))))) (line_put g (committed_line (typed p.mode (k ∷ ks))) o) h

    pub all_passed : rest_from s at p ≡ presses [] → {ks : List ℕ} → ks ≡ word → {total' : Found} {out' : List ℕ} {f : Found} → total' ≡ total_if (some_keys ks) p.mode ks total → out' ≡ output_if (some_keys ks) p.mode ks total out
        → f ≡ found_of total' p.milliseconds → (Ok f ≡ passage_of (throughout s b)) × LinesPut (throughout s b) out₀ out'
    all_passed e {ks} k {total'} {out'} {f} t o d =
        let time : p.milliseconds + 0 ≡ p.milliseconds = omega arith in
        let q = the_whole ∙ ap (outcome p.mode g.tally word p.milliseconds) e ∙ (λ i. finished (together g.tally (of_words p.mode (last_word (sym k i)))) (time i)) in
        let all = t ∙ ap (total_if (some_keys ks) p.mode ks) g.is_total ∙ with_last g.tally p.mode ks in
        (ap Ok (d ∙ ap (λ (u : Found). found_of u p.milliseconds) all) ∙ sym (ap passage_of q), subst (λ (u : Outcome). LinesPut u out₀ out') (sym q) (last_put ks o))
