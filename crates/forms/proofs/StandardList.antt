-- The standard key list of each valid syllable, in both modes and every mix of capitals: typing it gives that syllable, it has at most 9 keys, all allowed, and two syllables have two lists.
use mathlib.Core.Path.{◌≡◌, sym, ap, ◌∙◌}
use mathlib.Core.List.{List}
use Prim.Native.Nat.{ℕ}
use lib.Dec.{T}
use Rattle.rules.specs.Letters.{Letters}
use Rattle.rules.specs.TheWord.{State}
use Rattle.rules.specs.Speller.{standard_keys}
use Rattle.rules.specs.Refusals.{is_mode}
use Rattle.rules.specs.WhatComesBack.{typed}
use Rattle.rules.specs.Syllables.{Syllable}
use Rattle.forms.specs.Spelling.{Gives}
use Rattle.forms.proofs.Typings.{list_gives}

-- Gives: the exact letters, with their capitals, the tone, open, the text, verdict 0, decision keep; all keys allowed, at most 9.
pub standard_list : (m : ℕ) → T (is_mode m) → (w : Letters) (t : ℕ) → Syllable w t → Gives m (standard_keys m w t) w t
standard_list m mode w t s = list_gives m mode w t s

-- Two syllables with one list are one: the same letters, in the same case, and the same tone.
pub one_list : (m : ℕ) → T (is_mode m) → (w v : Letters) (t u : ℕ) → Syllable w t → Syllable v u → standard_keys m w t ≡ standard_keys m v u → (w ≡ v) × (t ≡ u)
one_list m mode w v t u a b e =
    let x = sym (standard_list m mode w t a).state ∙ ap (λ (ks : List ℕ). (typed m ks).state) e ∙ (standard_list m mode v u b).state in
    (ap (λ (s : State). s.letters) x, ap (λ (s : State). s.tone) x)
