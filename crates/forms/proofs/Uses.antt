-- The theorems used on Đường: none of them is idle.
use mathlib.Core.Path.{◌≡◌, refl, ap}
use mathlib.Core.Bool.{true}
use mathlib.Core.List.{[], ◌∷◌, ◌++◌}
use Prim.Native.Char.{code}
use lib.Dec.{lit≤}
use lib.ListN.{replicate}
use Rattle.rules.specs.Letters.{Letters, telex, vni, grave, stroke, characters, word}
use Rattle.rules.specs.TakingApart.{verdict, listed, fits, fit, joins, initial, nucleus, final, leftovers}
use Rattle.rules.specs.TonePlace.{tone_place}
use Rattle.rules.specs.CodePoints.{utf8_of, shown}
use Rattle.rules.specs.Speller.{standard_keys}
use Rattle.rules.specs.WhatComesBack.{typed, Written, spell}
use Rattle.rules.specs.Syllables.{Syllable, open_word, this_one, a_later_one, all_taken, first_this}
use Rattle.forms.proofs.AnyOrder.{any_order}
use Rattle.forms.proofs.StandardList.{standard_list}
use Rattle.forms.proofs.AcceptedTexts.{shown_spelled}

abbrev Đương : Letters
Đương = record { base = code "d"; shape = stroke; capital = true } ∷ word "ương"

Đường : Syllable Đương grave
unfolding verdict listed fits fit joins initial nucleus final leftovers
Đường = record { valid = refl; tone = lit≤ tt }

-- Duong, then w D f; D u o n g, then 2 9 7
by_w_d_f : (typed telex (characters "DuongwDf")).state ≡ open_word Đương grave
by_w_d_f = (any_order telex tt Đương grave Đường (characters "wDf") (first_this (a_later_one (a_later_one this_one)) (first_this (a_later_one this_one) (first_this this_one all_taken)))).state

by_2_9_7 : (typed vni (characters "Duong297")).state ≡ open_word Đương grave
by_2_9_7 = (any_order vni tt Đương grave Đường (characters "297") (first_this this_one (first_this this_one (first_this this_one all_taken)))).state

-- its standard lists
telex_list : standard_keys telex Đương grave ≡ characters "Dduowngf"
unfolding standard_keys
telex_list = refl

vni_list : standard_keys vni Đương grave ≡ characters "D9uo7ng2"
unfolding standard_keys
vni_list = refl

by_list : (typed vni (standard_keys vni Đương grave)).state ≡ open_word Đương grave
by_list = (standard_list vni tt Đương grave Đường).state

-- and its text, spelled into an output of ten bytes
its_text : shown (open_word Đương grave) ≡ utf8_of (characters "Đường")
unfolding tone_place initial nucleus final leftovers joins
its_text = refl

spelled : (spell telex (shown (open_word Đương grave)) (replicate 10 0)).output ≡ characters "Dduowngf" ++ (0 ∷ 0 ∷ [])
unfolding standard_keys
spelled = ap (λ (z : Written). z.output) (shown_spelled telex tt Đương grave Đường (replicate 10 0) (lit≤ tt))
