-- The speller accepts exactly the shown texts of valid syllables: what it reads without a fault is one, and each is read so and spelled.
use Rattle.std.specs.Prelude.{Ok}
use mathlib.Core.Path.{◌≡◌, refl, sym, ap, subst, ◌∙◌}
use mathlib.Core.Bool.{not}
use mathlib.Core.List.{List}
use mathlib.Core.Logic.{◌↔◌}
use Prim.Native.Nat.{ℕ, ◌≤◌}
use native.Mathlib.Omega.{arith}
use lib.Dec.{T}
use lib.ListN.{length}
use Rattle.rules.specs.Letters.{Letters}
use Rattle.rules.specs.CodePoints.{Sign, bytes, shown}
use Rattle.rules.specs.Speller.{Reading, reading, stuck_at, read, letters_in, tone_in, fault, standard_keys}
use Rattle.rules.specs.Refusals.{is_mode, is_stuck, fault_of}
use Rattle.rules.specs.WhatComesBack.{spell}
use Rattle.rules.specs.Syllables.{Syllable, open_word, ShownBySyllable}
use Rattle.forms.specs.Spelling.{AcceptedText, written_keys, Writes}
use Rattle.forms.proofs.StandardList.{standard_list}
use Rattle.forms.proofs.RoundTrip.{round_trip}
use Rattle.forms.proofs.ReadBack.{was_read}
use Rattle.forms.proofs.Faults.{only_syllables}
use Rattle.forms.proofs.Spells.{short_text, written_accepts, accepts_written}

-- A text that is read, with no fault in what is read, is the text of a valid syllable, and what is read is that syllable as shown.
pub only_shown : (text : List ℕ) (ss : List Sign) → read text ≡ reading ss → fault ss ≡ 0 → AcceptedText text ss
only_shown text ss e h =
    let r = was_read text ss e in
    let k = only_syllables ss r.known h in
    record { syllable = k.syllable; as_shown = k.as_shown; text_is = sym r.same_bytes_law ∙ ap bytes k.as_shown }

-- Each shown text of a valid syllable is spelled, where the output has room for its keys: the output holds the standard list at its front, and the rest is unchanged.
pub shown_spelled : (m : ℕ) → T (is_mode m) → (w : Letters) (t : ℕ) → Syllable w t → (out : List ℕ) → length (standard_keys m w t) ≤ length out →
    spell m (shown (open_word w t)) out ≡ written_keys (standard_keys m w t) out
shown_spelled m mode w t s out room =
    let b = round_trip m mode w t s in
    let text = shown (open_word w t) in
    accepts_written m text out
    (record {
      mode = mode;
      short = short_text w t s;
      not_stuck = subst (λ (r : Reading). T (not (is_stuck r))) (sym b.read_as) tt;
      faultless = ap fault_of b.read_as ∙ b.faultless;
      room = subst (λ (ks : List ℕ). length ks ≤ length out) (sym b.keys) room;
    }) ∙ ap (λ (ks : List ℕ). written_keys ks out) b.keys

-- And whatever is spelled, in whatever mode and output, is the shown text of a valid syllable.
shown_by : (text : List ℕ) (r : Reading) → read text ≡ r → T (not (is_stuck r)) → fault_of r ≡ 0 → ShownBySyllable text
shown_by text (reading ss) e k f = let a = only_shown text ss e f in record { letters = letters_in ss; tone = tone_in ss; syllable = a.syllable; as_shown = a.text_is }
shown_by text (stuck_at _) e k f = elim k [ ]

pub spelled_shown : (m : ℕ) (text out : List ℕ) {n : ℕ} → (spell m text out).answer ≡ Ok n → ShownBySyllable text
spelled_shown m text out e = let a = written_accepts m text out e in shown_by text (read text) refl a.not_stuck a.faultless

-- Both together: with room for 9 keys, in a mode that exists, the speller writes exactly where the text is the shown text of a valid syllable.
pub exactly_shown : (m : ℕ) → T (is_mode m) → (text out : List ℕ) → 9 ≤ length out → Writes m text out ↔ ShownBySyllable text
unfolding Writes
exactly_shown m mode text out room = (λ (n, e). spelled_shown m text out e, λ s. back s)
  where
    back : ShownBySyllable text → (n : ℕ) × ((spell m text out).answer ≡ Ok n)
    back s =
        let ks = standard_keys m s.letters s.tone in
        let e = shown_spelled m mode s.letters s.tone s.syllable out (omega (arith, (standard_list m mode s.letters s.tone s.syllable).short)) in
        (length ks, ap (λ (x : List ℕ). (spell m x out).answer) s.as_shown ∙ ap (λ z. z.answer) e)
