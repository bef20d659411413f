-- What one byte does, by its tests: kept, or the line answered, or stuck.
use mathlib.Core.Path.{◌≡◌, refl, sym, ap, ap₂, ◌∙◌}
use mathlib.Core.Bool.{Bool, true, false}
use mathlib.Core.List.{List, [], ◌∷◌, ◌++◌, append-nil}
use Prim.Native.Nat.{ℕ, ◌+◌, ◌-◌, ◌≤◌, ◌<◌}
use native.Mathlib.Omega.{arith}
use borrow.Author.Tests.{eq-eqb, ne_eqb, leb-true, leb-false, lt-ltb, le-ltb}
use lib.Dec.{leb}
use lib.ListN.{length, take, drop, set, length-take, length-drop, take-append-drop, drop_of_length-le}
use lib.Seq.{take_all}
use Rattle.std.specs.Prelude.{Option, Some, None, Ok, Err, Result}
use Rattle.rules.specs.TheWord.{at_front}
use Rattle.rules.specs.WhatComesBack.{Written}
use Rattle.rules.specs.Drill.{newline}
use Rattle.rules.specs.declared.Refusal.{Refusal}
use Rattle.output.specs.Front.{put}
use Rattle.output.proofs.Rooms.{has_room as fits, no_room as too_long}
use Rattle.lines.specs.Programs.{answer_of, line_answer}
use Rattle.lines.specs.declared.Program.{Program}
use Rattle.stream.specs.Feeding.{most_kept, line_of, answer_now, kept_if, kept, ended, ByteFed, byte_if, byte_fed, put_at, place_after, finish_or}
use Rattle.stream.specs.declared.Begun.{Begun}

-- one byte more
module _ (s : Begun) (b : ℕ) where
  pub has_room : s.length < most_kept → record { program = s.program; line = set s.line s.length b; length = s.length + 1 } ≡ kept s b
  unfolding kept
  has_room h = sym (ap (λ (c : Bool). kept_if c s b) (lt-ltb s.length most_kept h))

  pub is_full : most_kept ≤ s.length → s ≡ kept s b
  unfolding kept
  is_full h = sym (ap (λ (c : Bool). kept_if c s b) (le-ltb s.length most_kept h))

-- the answer to a line: it fits the output, or the output is as it was
module _ (text out : List ℕ) where
  -- by what was answered
  pub record NoRoom : Type 0 where
    pub test : leb (length text) (length out) ≡ false
    pub output : (put text out).output ≡ out

  pub record Room (n : ℕ) : Type 0 where
    pub test : leb (length text) (length out) ≡ true
    pub many : n ≡ length text
    pub output : (put text out).output ≡ at_front text out

  pub no_room : (x : Refusal) → (put text out).answer ≡ Err x → NoRoom
  no_room x e = go (leb (length text) (length out)) refl
    where
      go : (b : Bool) → leb (length text) (length out) ≡ b → NoRoom
      go true d =
          let f : Ok (length text) ≡ Err x = sym (ap (λ (y : Written). y.answer) (fits text out (leb-true (length text) (length out) d))) ∙ e in
          let z : ◌≡◌ {A = ℕ} 0 1 = cc in
          absurd (omega arith)
      go false d = record { test = d; output = ap (λ (y : Written). y.output) (too_long text out (leb-false (length text) (length out) d)) }

  pub room : (n : ℕ) → (put text out).answer ≡ Ok n → Room n
  room n e = go (leb (length text) (length out)) refl
    where
      go : (b : Bool) → leb (length text) (length out) ≡ b → Room n
      go true d =
          let g = fits text out (leb-true (length text) (length out) d) in
          let f : Ok (length text) ≡ Ok n = sym (ap (λ (y : Written). y.answer) g) ∙ e in
          record { test = d; many = cc; output = ap (λ (y : Written). y.output) g }
      go false d =
          let f : ◌≡◌ {A = Result ℕ Refusal} (Err (record { number = 4; value = length text })) (Ok n) = sym (ap (λ (y : Written). y.answer) (too_long text out (leb-false (length text) (length out) d))) ∙ e in
          let z : ◌≡◌ {A = ℕ} 0 1 = cc in
          absurd (omega arith)

-- a byte with so much of an output behind a place
module _ (s : Begun) (b : ℕ) (out : List ℕ) (at : ℕ) (inside : at ≤ length out) where
  abbrev left : ℕ
  left = length out - at

  abbrev fed : ByteFed
  fed = byte_fed s b left

  -- the place, the state and the output after it
  pub record Stepped (r : Option ℕ) (next : Begun) (after : List ℕ) : Type 0 where
    pub place : r ≡ place_after at fed
    pub state : next ≡ fed.state
    pub output : after ≡ put_at at fed.text out

  stepped : (f : ByteFed) (r : Option ℕ) (next : Begun) (after : List ℕ) → fed ≡ f → r ≡ place_after at f → next ≡ f.state → after ≡ put_at at f.text out → Stepped r next after
  stepped f r next after e p l q =
      record { place = p ∙ ap (place_after at) (sym e); state = l ∙ ap (λ (g : ByteFed). g.state) (sym e); output = q ∙ ap (λ (g : ByteFed). put_at at g.text out) (sym e) }

  nothing_put : out ≡ put_at at [] out
  nothing_put = sym (take-append-drop at out)

  behind : drop left (drop at out) ≡ []
  behind = drop_of_length-le (drop at out) {i = left} (simp length-drop (omega arith))

  pub whole : take left (drop at out) ≡ drop at out
  whole = take_all left (drop at out) (simp length-drop (omega arith))

  as_it_was : (part : List ℕ) → part ≡ take left (drop at out) → take at out ++ (part ++ drop left (drop at out)) ≡ put_at at [] out
  as_it_was part e = ap (λ (l : List ℕ). take at out ++ (l ++ drop left (drop at out))) (e ∙ whole) ∙ ap (λ (l : List ℕ). take at out ++ (drop at out ++ l)) behind ∙ ap (λ (l : List ℕ). take at out ++ l) (append-nil (drop at out))

  pub is_kept : (b ≡ newline → ⊥) → (x : Begun) → x ≡ kept s b → Stepped (Some at) x out
  unfolding byte_fed
  is_kept h x e =
      let f : ByteFed = record { state = kept s b; text = []; stuck = false } in
      let m : at ≡ at + 0 = omega arith in
      stepped f (Some at) x out (ap (λ (c : Bool). byte_if c (leb (length (answer_now s)) left) s b) (ne_eqb b newline h)) (ap Some m) e nothing_put

  module _ (nl : b ≡ newline) (line part : List ℕ) (l : line ≡ line_of s) where
    room_there : length (take left (drop at out)) ≡ left
    room_there = simp (length-take, length-drop) (omega arith)

    newlined : (fit : Bool) → leb (length (answer_of s.program line)) (length (take left (drop at out))) ≡ fit → fed ≡ byte_if true fit s b
    unfolding byte_fed
    newlined fit e = ap₂ (λ (c d : Bool). byte_if c d s b) (eq-eqb b newline nl) (ap₂ (λ (k : List ℕ) (n : ℕ). leb (length (answer_of s.program k)) n) (sym l) (sym room_there) ∙ e)

    pub is_stuck : (x : Refusal) → (line_answer s.program line (take left (drop at out))).answer ≡ Err x → part ≡ (line_answer s.program line (take left (drop at out))).output
        → Stepped None s (take at out ++ (part ++ drop left (drop at out)))
    is_stuck x a p =
        let no = no_room (answer_of s.program line) (take left (drop at out)) x a in
        let f : ByteFed = record { state = s; text = []; stuck = true } in
        stepped f None s (take at out ++ (part ++ drop left (drop at out))) (newlined false no.test) refl refl (as_it_was part (p ∙ no.output))

    pub is_answered : (n : ℕ) → (line_answer s.program line (take left (drop at out))).answer ≡ Ok n → part ≡ (line_answer s.program line (take left (drop at out))).output
        → Stepped (Some (at + n)) (ended s) (take at out ++ (part ++ drop left (drop at out)))
    is_answered n a p =
        let yes = room (answer_of s.program line) (take left (drop at out)) n a in
        let text = answer_now s in
        let f : ByteFed = record { state = ended s; text = text; stuck = false } in
        let long : n ≡ length text = yes.many ∙ ap (λ (k : List ℕ). length (answer_of s.program k)) l in
        let front : part ≡ at_front text (drop at out) = p ∙ yes.output ∙ ap₂ (λ (k o : List ℕ). at_front (answer_of s.program k) o) l whole in
        stepped f (Some (at + n)) (ended s) (take at out ++ (part ++ drop left (drop at out))) (newlined true yes.test) (ap (λ (k : ℕ). Some (at + k)) long) refl
        (ap₂ (λ (x y : List ℕ). take at out ++ (x ++ y)) front behind ∙ ap (λ (x : List ℕ). take at out ++ x) (append-nil (at_front text (drop at out))))

    pub fits_there : (n : ℕ) → (line_answer s.program line (take left (drop at out))).answer ≡ Ok n → at + n ≤ length out
    fits_there n a =
        let yes = room (answer_of s.program line) (take left (drop at out)) n a in
        omega (arith, yes.many, leb-true (length (answer_of s.program line)) (length (take left (drop at out))) yes.test, room_there)

-- the last line
pub some_line : (p : Program) (line out : List ℕ) → 0 < length line → line_answer p line out ≡ finish_or p line out
some_line p [] out h = absurd (omega arith)
some_line p (b ∷ bs) out h = refl

pub some_kept : (s : Begun) → length s.line ≡ most_kept → (s.length ≡ 0 → ⊥) → 0 < length (line_of s)
some_kept s long h = go s.length refl
  where
    go : (n : ℕ) → s.length ≡ n → 0 < length (line_of s)
    go n e = simp length-take (omega (arith, h))
