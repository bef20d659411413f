-- Demand 2, the other way: every valid syllable as shown is spelled, in either mode and every mix of capitals, into its standard list; typing that list shows the syllable again, byte for byte.
use mathlib.Core.Path.{◌≡◌, sym, ap, ap₂, subst, ◌∙◌}
use Prim.Native.Nat.{ℕ}
use lib.Dec.{T}
use Rattle.rules.specs.Letters.{Letters}
use Rattle.rules.specs.CodePoints.{signs, shown}
use Rattle.rules.specs.Speller.{read, standard_keys}
use Rattle.rules.specs.Refusals.{is_mode}
use Rattle.rules.specs.WhatComesBack.{keys_of}
use Rattle.rules.specs.Syllables.{Syllable, open_word}
use Rattle.forms.specs.Spelling.{Gives, SpelledAgain}
use Rattle.forms.proofs.StandardList.{standard_list, one_list}
use Rattle.forms.proofs.ReadBack.{reads_back}
use Rattle.forms.proofs.Signs.{letters_back, signs_known, tones_back}
use Rattle.forms.proofs.Faults.{no_fault}

pub round_trip : (m : ℕ) → T (is_mode m) → (w : Letters) (t : ℕ) → Syllable w t → SpelledAgain m w t
round_trip m mode w t s =
    let e = reads_back (signs w t) (signs_known w t s) in
    let k = ap (keys_of m) e ∙ ap₂ (standard_keys m) (letters_back w t) (tones_back w t s).tone in
    record {
      read_as = e;
      faultless = no_fault w t s;
      letters = letters_back w t;
      tone = (tones_back w t s).tone;
      keys = k;
      again = subst (λ ks. Gives m ks w t) (sym k) (standard_list m mode w t s);
    }

-- Two shown syllables with one list are one text: those that differ have different lists.
pub one_text : (m : ℕ) → T (is_mode m) → (w v : Letters) (t u : ℕ) → Syllable w t → Syllable v u →
    keys_of m (read (shown (open_word w t))) ≡ keys_of m (read (shown (open_word v u))) → shown (open_word w t) ≡ shown (open_word v u)
one_text m mode w v t u a b e =
    let (l, n) = one_list m mode w v t u a b (sym (round_trip m mode w t a).keys ∙ e ∙ (round_trip m mode v u b).keys) in
    ap₂ (λ (x : Letters) (y : ℕ). shown (open_word x y)) l n
