-- The starred drill cards hold, the worked drill gives its answers, and the lines of the drill and of the speller have theirs: one computed proof over each list.
use lib.Dec.{T}
use Rattle.rules.specs.TakingApart.{verdict, admitted, some_agrees, listed, fits, fit, joins, initial, nucleus, final, leftovers}
use Rattle.rules.specs.TonePlace.{tone_place}
use Rattle.rules.specs.Decision.{keeps}
use Rattle.rules.specs.Speller.{letter_at, read, standard_keys}
use Rattle.rules.specs.Refusals.{same_bytes, refusal}
use Rattle.rules.specs.WhatComesBack.{commit}
use Rattle.rules.specs.Drill.{answer_line, drill}
use Rattle.rules.specs.SpellProgram.{spell_line}
use Rattle.rules.specs.Cards.{starred, every_card, lines, worked_input, worked_answers, spell_lines, every_line}

pub starred_cards : T (every_card starred)
unfolding verdict admitted some_agrees listed fits fit joins initial nucleus final leftovers tone_place keeps commit refusal
starred_cards = tt

pub drill_lines : T (every_line answer_line lines)
unfolding verdict admitted some_agrees listed fits fit joins initial nucleus final leftovers tone_place keeps commit refusal answer_line
drill_lines = tt

pub worked_drill : T (same_bytes (drill worked_input) worked_answers)
unfolding verdict admitted some_agrees listed fits fit joins initial nucleus final leftovers tone_place keeps commit refusal answer_line drill
worked_drill = tt

pub spell_lines_law : T (every_line spell_line spell_lines)
unfolding verdict listed fits fit joins initial nucleus final leftovers tone_place letter_at read standard_keys refusal spell_line
spell_lines_law = tt
