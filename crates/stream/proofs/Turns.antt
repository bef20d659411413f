-- One turn of the loop over a block, and its end: what is done so far and what the rest does are together what the whole block does.
use mathlib.Core.Path.{◌≡◌, refl, sym, ap, ap₂, ◌∙◌}
use mathlib.Core.Bool.{Bool, true, false}
use mathlib.Core.List.{List, [], ◌++◌, append-nil, append_assoc}
use Prim.Native.Nat.{ℕ, suc, ◌+◌, ◌-◌, ◌≤◌, ◌<◌}
use native.Mathlib.Omega.{arith}
use borrow.Author.Tests.{leb-true}
use lib.Dec.{eqb, leb}
use lib.ListN.{length, take, drop, get_or, length-append, length-take, length-drop, take-append-drop, drop_of_length-le}
use lib.Seq.{drop-cons, drop-drop, take_at, drop_at, length-take-le}
use Rattle.std.specs.Prelude.{Option, Some, None}
use Rattle.rules.specs.TheWord.{at_front}
use Rattle.rules.specs.Drill.{newline}
use Rattle.stream.specs.Feeding.{answer_now, ByteFed, byte_if, byte_fed, Feeding, stopped, after, feeding, put_at, place_if, place_after, fed_of}
use Rattle.stream.specs.declared.Begun.{Begun}
use Rattle.stream.specs.declared.Fed.{Fed}

-- what a byte writes has room
text_fits : (s : Begun) (b room : ℕ) → length (byte_fed s b room).text ≤ room
unfolding byte_fed
text_fits s b room = go (eqb b newline) (leb (length (answer_now s)) room) refl
  where
    go : (e f : Bool) → leb (length (answer_now s)) room ≡ f → length (byte_if e f s b).text ≤ room
    go false f d = omega arith
    go true true d = leb-true (length (answer_now s)) room d
    go true false d = omega arith

-- and where it is stuck it writes nothing, and the state is as it was
stuck_nothing : (s : Begun) (b room : ℕ) → (byte_fed s b room).stuck ≡ true → byte_fed s b room ≡ record { state = s; text = []; stuck = true }
unfolding byte_fed
stuck_nothing s b room = go (eqb b newline) (leb (length (answer_now s)) room)
  where
    go : (e f : Bool) → (byte_if e f s b).stuck ≡ true → byte_if e f s b ≡ record { state = s; text = []; stuck = true }
    go false f d = let z : ◌≡◌ {A = ℕ} 0 1 = cc in absurd (omega arith)
    go true true d = let z : ◌≡◌ {A = ℕ} 0 1 = cc in absurd (omega arith)
    go true false d = refl

-- what the place says
no_place : (c : Bool) (n : ℕ) → place_if c n ≡ None → c ≡ true
no_place true n e = refl
no_place false n e = cc

a_place : (c : Bool) (n k : ℕ) → place_if c n ≡ Some k → (c ≡ false) × (k ≡ n)
a_place true n k e = cc
a_place false n k e = (refl, cc)

-- a block's next byte: stuck, or the rest after it
module _ (s : Begun) (block : List ℕ) (i room : ℕ) (inside : i < length block) where
  abbrev fed : ByteFed
  fed = byte_fed s (get_or block i 0) room

  abbrev feed_if : Bool → Feeding
  feed_if c = elim c [ true ↦ stopped s | false ↦ after 1 fed.text (feeding fed.state (drop (suc i) block) (room - length fed.text)) ]

  turn : (c : Bool) → fed.stuck ≡ c → feeding s (drop i block) room ≡ feed_if c
  turn c e = ap (λ (l : List ℕ). feeding s l room) (drop-cons block i 0 inside) ∙ ap feed_if e

pub record SoFar (s₀ : Begun) (block : List ℕ) (from : ℕ) (out₀ out : List ℕ) (s : Begun) (at i : ℕ) : Type 0 where
  pub onward : from ≤ i
  pub within : at ≤ length out
  pub long : length out ≡ length out₀
  pub rest : drop at out ≡ drop at out₀
  pub same : after (i - from) (take at out) (feeding s (drop i block) (length out - at)) ≡ feeding s₀ (drop from block) (length out₀)

-- what comes back of a block
pub record Comes (s₀ : Begun) (block : List ℕ) (from : ℕ) (out₀ : List ℕ) (r : Fed) (out : List ℕ) : Type 0 where
  pub answer : r ≡ fed_of from (feeding s₀ (drop from block) (length out₀))
  pub output : out ≡ at_front (feeding s₀ (drop from block) (length out₀)).text out₀

module _ (s₀ : Begun) (block : List ℕ) (from : ℕ) (out₀ : List ℕ) where
  pub begun : SoFar s₀ block from out₀ out₀ s₀ 0 from
  begun =
      let n : from - from ≡ 0 = omega arith in
      let m : length out₀ - 0 ≡ length out₀ = omega arith in
      record {
        onward = omega arith;
        within = omega arith;
        long = refl;
        rest = refl;
        same = ap₂ (λ (k r : ℕ). after k [] (feeding s₀ (drop from block) r)) n m ∙ nothing_before (feeding s₀ (drop from block) (length out₀));
      }
    where
      nothing_before : (f : Feeding) → after 0 [] f ≡ f
      nothing_before f = let e : 0 + f.taken ≡ f.taken = omega arith in ap (λ (k : ℕ). record { state = f.state; taken = k; text = f.text }) e

  module _ (out : List ℕ) (s : Begun) (at i : ℕ) (so : SoFar s₀ block from out₀ out s at i) where
    abbrev left : ℕ
    left = length out - at

    -- nothing more is taken
    ends : feeding s (drop i block) left ≡ stopped s → Comes s₀ block from out₀ (record { state = s; taken = i; written = at }) out
    ends e =
        let f : after (i - from) (take at out) (stopped s) ≡ feeding s₀ (drop from block) (length out₀) = ap (after (i - from) (take at out)) (sym e) ∙ so.same in
        let n : i ≡ from + (i - from + 0) = omega (arith, so.onward) in
        let m : length (take at out ++ []) ≡ at = ap length (append-nil (take at out)) ∙ length-take-le at out so.within in
        record {
          answer = ap₂ (λ (k l : ℕ). record { state = s; taken = k; written = l }) n (sym m) ∙ ap (fed_of from) f;
          output =
              sym (take-append-drop at out) ∙ ap₂ ◌++◌ (sym (append-nil (take at out))) (so.rest ∙ ap (λ (k : ℕ). drop k out₀) (sym m)) ∙
              ap (λ (g : Feeding). at_front g.text out₀) f;
        }

    pub at_end : length block ≤ i → Comes s₀ block from out₀ (record { state = s; taken = i; written = at }) out
    at_end h = ends (ap (λ (l : List ℕ). feeding s l left) (drop_of_length-le block h))

    abbrev f : ByteFed
    f = byte_fed s (get_or block i 0) left

    module _ (inside : i < length block) (r : Option ℕ) (x : Begun) (next : List ℕ) (place : r ≡ place_after at f) (state : x ≡ f.state) (put : next ≡ put_at at f.text out) where
      pub at_stuck : r ≡ None → Comes s₀ block from out₀ (record { state = x; taken = i; written = at }) next
      at_stuck e =
          let stuck = no_place f.stuck (at + length f.text) (sym place ∙ e) in
          let last = ends (turn s block i left inside true stuck) in
          let nothing = stuck_nothing s (get_or block i 0) left stuck in
          let as_was : x ≡ s = state ∙ ap (λ (g : ByteFed). g.state) nothing in
          record {
            answer = ap (λ (y : Begun). record { state = y; taken = i; written = at }) as_was ∙ last.answer;
            output = put ∙ ap (λ (g : ByteFed). put_at at g.text out) nothing ∙ take-append-drop at out ∙ last.output;
          }

      pub as_long : length next ≡ length out
      as_long = ap length put ∙ simp (length-append, length-take, length-drop) (omega (arith, so.within, text_fits s (get_or block i 0) left))

      pub one_more : (behind : ℕ) → r ≡ Some behind → SoFar s₀ block from out₀ next x behind (i + 1)
      one_more behind e =
          let goes = a_place f.stuck (at + length f.text) behind (sym place ∙ e) in
          let text = f.text in
          let room = text_fits s (get_or block i 0) left in
          let split : next ≡ (take at out ++ text) ++ drop (length text) (drop at out) = put ∙ sym (append_assoc (take at out) text (drop (length text) (drop at out))) in
          let n : length (take at out ++ text) ≡ at + length text = length-append (take at out) text ∙ ap (λ (k : ℕ). k + length text) (length-take-le at out so.within) in
          let m = goes.1 in
          let l : length (take at out ++ text) ≡ behind = n ∙ sym m in
          let front : take behind next ≡ take at out ++ text = ap (take behind) split ∙ take_at (take at out ++ text) (drop (length text) (drop at out)) behind l in
          let back : drop behind next ≡ drop (length text) (drop at out) = ap (drop behind) split ∙ drop_at (take at out ++ text) (drop (length text) (drop at out)) behind l in
          let k : length next - behind ≡ left - length text = omega (arith, as_long, m, so.within, room) in
          let j : i + 1 - from ≡ i - from + 1 = omega (arith, so.onward) in
          let one : i + 1 ≡ suc i = omega arith in
          let g = feeding f.state (drop (suc i) block) (left - length text) in
          let p : i - from + 1 + g.taken ≡ i - from + (1 + g.taken) = omega arith in
          record {
            onward = omega (arith, so.onward);
            within = omega (arith, as_long, m, so.within, room);
            long = as_long ∙ so.long;
            rest = back ∙ ap (drop (length text)) so.rest ∙ drop-drop (length text) at out₀ ∙ ap (λ (q : ℕ). drop q out₀) (sym m);
            same =
                (λ u. after (j u) (front u) (feeding (state u) (drop (one u) block) (k u))) ∙
                ap₂ (λ (q : ℕ) (t : List ℕ). record { state = g.state; taken = q; text = t }) p (append_assoc (take at out) text g.text) ∙
                ap (after (i - from) (take at out)) (sym (turn s block i left inside false goes.0)) ∙ so.same;
          }
