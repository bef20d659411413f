-- The mode in a part at the start of a recording is that of the whole recording, and a step at a place of a part is the step at that place of the whole, its places counted from the recording's start.
use Rattle.std.proofs.Common.{◌≡◌, ℕ, ◌+◌, ◌<◌, ◌≤◌, Bool, true, false, ltb, ◌⊎◌, List, [], ◌++◌, length, drop, sym, refl, ap, ◌∙◌, inl, inr, append-nil, arith, length-append, length-drop, drop-drop, ltb-false, ltb-true, Option, Some, None, Ok}
use lib.Seq.{drop-append-le}
use Rattle.groups.specs.Numbers.{number}
use Rattle.groups.specs.declared.Number.{Number}
use Rattle.groups.proofs.BothWays.{number_within, number_front}
use Rattle.recording.specs.Recordings.{press, onward, word_full, not_allowed, too_long, refused_for, refused_step, step_at, mode_read, begin}
use Rattle.recording.specs.declared.Progress.{Progress}
use Rattle.recording.specs.declared.KeyPress.{KeyPress}
use Rattle.recording.specs.declared.Stepped.{Stepped}
use Rattle.recording.proofs.Presses.{says_full, says_not_allowed, says_too_long, says_fine}
use Rattle.recording.proofs.Steps.{ends_within, at_end, no_time, no_key, faulty_press, fine_press}
use Rattle.playing.specs.Parts.{IsPart, Enough, ten_bytes, no_more, later}

abbrev pressed_to : KeyPress → ℕ → Progress → Stepped
pressed_to x next p = record { press = Ok (Some x); at = next; progress = onward p x }

module _ (s v rest : List ℕ) (start : ℕ) (part : IsPart s start v rest) where
  -- behind a place of the part
  behind : (at : ℕ) → at ≤ length v → drop (start + at) s ≡ drop at v ++ rest
  behind at h = sym (drop-drop at start s) ∙ ap (drop at) part.there ∙ drop-append-le at v rest h

  same_number : (at : ℕ) → at ≤ length v → ((5 ≤ length (drop at v)) ⊎ (rest ≡ [])) → number (drop (start + at) s) ≡ number (drop at v)
  same_number at h (inl five) = ap number (behind at h) ∙ number_front (drop at v) rest five
  same_number at h (inr e) = ap number (behind at h ∙ ap (λ (bs : List ℕ). drop at v ++ bs) e ∙ append-nil (drop at v))

  module _ (at : ℕ) (enough : Enough at v rest) where
    five : (j : ℕ) → j ≤ at + 5 → (5 ≤ length (drop j v)) ⊎ (rest ≡ [])
    five j h = by enough
      where
        by : Enough at v rest → (5 ≤ length (drop j v)) ⊎ (rest ≡ [])
        by (ten_bytes t) = inl (omega (arith, length-drop j v))
        by (no_more e) = inr e

    more_behind : (g : ℕ) → start + at + g ≡ start + (at + g)
    more_behind g = omega arith

    module _ (p : Progress) where
      abbrev Same : Type 0
      Same = step_at s (start + at) p ≡ later start (step_at v at p)

      module _ (inside : at < length v) where
        inside_all : start + at < length s
        inside_all = omega (arith, ap length (behind at (omega arith)), length-append (drop at v) rest, length-drop at v, length-drop (start + at) s)

        module _ (t : Number) (e : number (drop at v) ≡ Some t) where
          time_all : number (drop (start + at) s) ≡ Some t
          time_all = same_number at (omega arith) (five at (omega arith)) ∙ e

          key_all : number (drop (start + at + t.groups) s) ≡ number (drop (at + t.groups) v)
          key_all =
              ap (λ (j : ℕ). number (drop j s)) (more_behind t.groups) ∙
              same_number (at + t.groups) (ends_within v at t (sym e)) (five (at + t.groups) (omega (arith, (number_within (drop at v) t e).2)))

          module _ (k : Number) (f : number (drop (at + t.groups) v) ≡ Some k) where
            time_says : Some t ≡ number (drop at v)
            time_says = sym e

            time_says_all : Some t ≡ number (drop (start + at) s)
            time_says_all = sym time_all

            key_says : Some k ≡ number (drop (at + t.groups) v)
            key_says = sym f

            key_says_all : Some k ≡ number (drop (start + at + t.groups) s)
            key_says_all = sym (key_all ∙ f)

            by_tests : (x y z : Bool) → word_full p k.value ≡ x → not_allowed p k.value ≡ y → too_long p t.value ≡ z → Same
            by_tests true y z full b c =
                sym (faulty_press s (start + at) p t inside_all time_says_all k key_says_all (refused_for 2 (start + at + t.groups)) (sym (says_full p t.value k.value (start + at + t.groups) (start + at) full))) ∙
                ap (λ (j : ℕ). refused_step 2 j (start + at) p) (more_behind t.groups) ∙
                ap (later start) (faulty_press v at p t inside time_says k key_says (refused_for 2 (at + t.groups)) (sym (says_full p t.value k.value (at + t.groups) at full)))
            by_tests false true z room unknown c =
                sym (faulty_press s (start + at) p t inside_all time_says_all k key_says_all (refused_for 3 (start + at + t.groups)) (sym (says_not_allowed p t.value k.value (start + at + t.groups) (start + at) room unknown))) ∙
                ap (λ (j : ℕ). refused_step 3 j (start + at) p) (more_behind t.groups) ∙
                ap (later start) (faulty_press v at p t inside time_says k key_says (refused_for 3 (at + t.groups)) (sym (says_not_allowed p t.value k.value (at + t.groups) at room unknown)))
            by_tests false false true room known long =
                sym (faulty_press s (start + at) p t inside_all time_says_all k key_says_all (refused_for 11 (start + at)) (sym (says_too_long p t.value k.value (start + at + t.groups) (start + at) room known long))) ∙
                ap (later start) (faulty_press v at p t inside time_says k key_says (refused_for 11 at) (sym (says_too_long p t.value k.value (at + t.groups) at room known long)))
            by_tests false false false room known short =
                sym (fine_press s (start + at) p t inside_all time_says_all k key_says_all (sym (says_fine p t.value k.value (start + at + t.groups) (start + at) room known short))) ∙
                ap (λ (j : ℕ). pressed_to (press t.value k.value) j p) (omega arith) ∙
                ap (later start) (fine_press v at p t inside time_says k key_says (sym (says_fine p t.value k.value (at + t.groups) at room known short)))

          by_key : (o : Option Number) → number (drop (at + t.groups) v) ≡ o → Same
          by_key None f =
              sym (no_key s (start + at) p t inside_all (sym time_all) (sym (key_all ∙ f))) ∙ ap (λ (j : ℕ). refused_step 10 j (start + at) p) (more_behind t.groups) ∙
              ap (later start) (no_key v at p t inside (sym e) (sym f))
          by_key (Some k) f = by_tests k f (word_full p k.value) (not_allowed p k.value) (too_long p t.value) refl refl refl

        by_time : (o : Option Number) → number (drop at v) ≡ o → Same
        by_time None e =
            sym (no_time s (start + at) p inside_all (sym ((same_number at (omega arith) (five at (omega arith)) ∙ e)))) ∙ ap (later start) (no_time v at p inside (sym e))
        by_time (Some t) e = by_key t e (number (drop (at + t.groups) v)) refl

      ended : Enough at v rest → length v ≤ at → length s ≤ start + at
      ended (ten_bytes t) h = absurd (omega arith)
      ended (no_more e) h = omega (arith, length-drop start s, ap length (part.there ∙ ap (λ (bs : List ℕ). v ++ bs) e ∙ append-nil v))

      by_place : (b : Bool) → ltb at (length v) ≡ b → Same
      by_place true e = by_time (ltb-true at (length v) e) (number (drop at v)) refl
      by_place false e = let h = ltb-false at (length v) e in sym (at_end s (start + at) p (ended enough h)) ∙ ap (later start) (at_end v at p h)

      pub same_step : step_at s (start + at) p ≡ later start (step_at v at p)
      same_step = by_place (ltb at (length v)) refl

pub same_mode : (s v rest : List ℕ) → IsPart s 0 v rest → Enough 0 v rest → begin s ≡ begin v
unfolding begin
same_mode s v rest part enough = ap mode_read (same_number s v rest 0 part 0 (omega arith) (five s v rest 0 part 0 enough 0 (omega arith)))
