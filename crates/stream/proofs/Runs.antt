-- Feeding the input in blocks cut anywhere writes the answers to its lines: the drill's behind the header, with the places of the keys or without, and the speller's.
use Rattle.std.specs.Prelude.{Option, Some, None, Ok}
use mathlib.Core.Path.{◌≡◌, refl, sym, ap, ◌∙◌}
use mathlib.Core.Bool.{Bool, true, false}
use mathlib.Core.List.{List, [], ◌∷◌, ◌++◌, append_assoc, append-nil}
use Prim.Native.Nat.{ℕ, suc, ◌+◌, ◌-◌, ◌<◌}
use native.Mathlib.Numerals.{add-one}
use native.Mathlib.Omega.{arith}
use borrow.Author.Tests.{ltb-true, ltb-false}
use lib.Dec.{eqb, leb, ltb}
use lib.ListN.{length, take, drop, set, length-set, length-take}
use lib.Seq.{take-suc-set, take-append-le}
use Rattle.rules.specs.Drill.{newline, header, last_line, lines_from, answers, drill, key_header, drill_with_keys}
use Rattle.rules.specs.SpellProgram.{spell_program}
use Rattle.rules.specs.Refusals.{refusal}
use Rattle.rules.specs.WhatComesBack.{write_or, room_call}
use Rattle.rules.specs.declared.Refusal.{Refusal}
use Rattle.rules.proofs.StaysInRange.{read_front}
use Rattle.output.specs.Front.{put}
use Rattle.lines.specs.Programs.{answer_of}
use Rattle.lines.specs.declared.Program.{Program}
use Rattle.lines.specs.declared.Program.TheVariants.{Drill, DrillWithKeys, Spell}
use Rattle.stream.specs.Feeding.{most_kept, none_begun, line_of, answer_now, kept_if, kept, ByteFed, byte_if, byte_fed, Feeding, stopped, after, feeding, finish_or, Run, finished, fed}
use Rattle.stream.specs.declared.Begun.{Begun}
use Rattle.stream.proofs.FirstBytes.{alike}

-- what is written of a text into a lent output, if it is not refused, is the text; so of the last line, which counts if not empty
put_read : (text out : List ℕ) (n : ℕ) → (put text out).answer ≡ Ok n → take n (put text out).output ≡ text
unfolding put
put_read text out n e = go (refusal (room_call text out)) e
  where
    go : (o : Option Refusal) → (write_or o text out).answer ≡ Ok n → take n (write_or o text out).output ≡ text
    go None f = let l : length text ≡ n = cc in read_front text out n l
    go (Some x) f = let z : ◌≡◌ {A = ℕ} 0 1 = cc in absurd (omega arith)

last_read : (q : Program) (l out : List ℕ) (n : ℕ) → (finish_or q l out).answer ≡ Ok n → take n (finish_or q l out).output ≡ answers (answer_of q) (last_line l)
last_read q [] out n e = let z : n ≡ 0 = cc in ap (λ (k : ℕ). take k out) z
last_read q (b ∷ bs) out n e = put_read (answer_of q (b ∷ bs)) out n e ∙ sym (append-nil (answer_of q (b ∷ bs)))

module _ (p : Program) where
  -- a state of this program, whose array is as long as the code's
  pub record Whole (s : Begun) : Type 0 where
    pub own : s.program ≡ p
    pub long : length s.line ≡ most_kept

  kept_whole : (s : Begun) (b : ℕ) → Whole s → Whole (kept s b)
  unfolding kept
  kept_whole s b w = go (ltb s.length most_kept)
    where
      go : (c : Bool) → Whole (kept_if c s b)
      go true = record { own = w.own; long = length-set s.line s.length b ∙ w.long }
      go false = w

  -- the line with one byte more, as far as it matters
  kept_alike : (s : Begun) (b : ℕ) → Whole s → take most_kept (line_of s ++ (b ∷ [])) ≡ take most_kept (line_of (kept s b))
  unfolding kept
  kept_alike s b w = go (ltb s.length most_kept) refl
    where
      go : (c : Bool) → ltb s.length most_kept ≡ c → take most_kept (line_of s ++ (b ∷ [])) ≡ take most_kept (line_of (kept_if c s b))
      go true d =
          let room : s.length < length s.line = omega (arith, w.long, ltb-true s.length most_kept d) in
          let one : take (s.length + 1) (set s.line s.length b) ≡ line_of s ++ (b ∷ []) = rw add-one (take-suc-set s.line s.length b room) in
          ap (take most_kept) (sym one)
      go false d =
          let full = ltb-false s.length most_kept d in
          take-append-le most_kept (line_of s) (b ∷ []) (simp length-take (omega (arith, w.long)))

  -- the answers to the line that has begun and what is still to come
  abbrev pub answers_to : List ℕ → List ℕ → List ℕ
  answers_to line input = answers (answer_of p) (lines_from line input)

  -- one byte, and what is still to come
  module _ (s : Begun) (b room : ℕ) (w : Whole s) where
    pub record Goes (f : ByteFed) : Type 0 where
      pub whole : Whole f.state
      pub goes : f.stuck ≡ false → (later : List ℕ) → f.text ++ answers_to (line_of f.state) later ≡ answers_to (line_of s) (b ∷ later)

    abbrev if_end : Bool → List ℕ → List ℕ
    if_end c later = answers (answer_of p) (elim c [ true ↦ line_of s ∷ lines_from [] later | false ↦ lines_from (line_of s ++ (b ∷ [])) later ])

    byte_goes : Goes (byte_fed s b room)
    unfolding byte_fed
    byte_goes = go (eqb b newline) refl (leb (length (answer_now s)) room)
      where
        go : (e : Bool) → eqb b newline ≡ e → (f : Bool) → Goes (byte_if e f s b)
        go false d f =
            record {
              whole = kept_whole s b w;
              goes = λ n later. sym (ap (λ (c : Bool). if_end c later) d ∙ alike p later (line_of s ++ (b ∷ [])) (line_of (kept s b)) (kept_alike s b w));
            }
        go true d true =
            record {
              whole = record { own = w.own; long = w.long };
              goes = λ n later. ap (λ (q : Program). answer_of q (line_of s) ++ answers_to [] later) w.own ∙ sym (ap (λ (c : Bool). if_end c later) d);
            }
        go true d false = record { whole = w; goes = λ n. let z : ◌≡◌ {A = ℕ} 0 1 = cc in absurd (omega arith) }

  -- a block, or a part of it, and what is still to come
  pub record Answered (s : Begun) (block : List ℕ) (f : Feeding) : Type 0 where
    pub whole : Whole f.state
    pub same : (later : List ℕ) → f.text ++ answers_to (line_of f.state) (drop f.taken block ++ later) ≡ answers_to (line_of s) (block ++ later)

  pub answered : (s : Begun) (block : List ℕ) (room : ℕ) → Whole s → Answered s block (feeding s block room)
  answered s [] room w = record { whole = w; same = λ later. refl }
  answered s (b ∷ bs) room w =
      let f = byte_fed s b room in
      go f (byte_goes s b room w) (feeding f.state bs (room - length f.text)) (answered f.state bs (room - length f.text) (byte_goes s b room w).whole) f.stuck refl
    where
      go : (f : ByteFed) → Goes s b room w f → (h : Feeding) → Answered f.state bs h → (c : Bool) → f.stuck ≡ c → Answered s (b ∷ bs) (elim c [ true ↦ stopped s | false ↦ after 1 f.text h ])
      go f g h rest true e = record { whole = w; same = λ later. refl }
      go f g h rest false e =
          let n : 1 + h.taken ≡ suc h.taken = omega arith in
          record {
            whole = rest.whole;
            same =
                λ later.
                ap (λ (k : ℕ). (f.text ++ h.text) ++ answers_to (line_of h.state) (drop k (b ∷ bs) ++ later)) n ∙
                append_assoc f.text h.text (answers_to (line_of h.state) (drop h.taken bs ++ later)) ∙
                ap (λ (t : List ℕ). f.text ++ t) (rest.same later) ∙ g.goes e (bs ++ later);
          }

  -- a whole run, from any state
  pub all_answered : {s : Begun} {input text : List ℕ} → Whole s → Run s input text → text ≡ answers_to (line_of s) input
  all_answered {s} w (finished out n e) = last_read s.program (line_of s) out n e ∙ ap (λ (q : Program). answers (answer_of q) (last_line (line_of s))) w.own
  all_answered {s} w (fed block later room run) =
      let a = answered s block room w in
      ap (λ (t : List ℕ). (feeding s block room).text ++ t) (all_answered a.whole run) ∙ a.same later

  -- and from none begun
  pub from_none : {input text : List ℕ} → Run (none_begun p) input text → text ≡ answers_to [] input
  from_none run = all_answered (record { own = refl; long = refl }) run

pub drilled : {input text : List ℕ} → Run (none_begun Drill) input text → header ++ text ≡ drill input
unfolding drill
drilled run = ap (λ (t : List ℕ). header ++ t) (from_none Drill run)

pub drilled_with_keys : {input text : List ℕ} → Run (none_begun DrillWithKeys) input text → key_header ++ text ≡ drill_with_keys input
unfolding drill_with_keys
drilled_with_keys run = ap (λ (t : List ℕ). key_header ++ t) (from_none DrillWithKeys run)

pub spelled : {input text : List ℕ} → Run (none_begun Spell) input text → text ≡ spell_program input
unfolding spell_program
spelled run = from_none Spell run
