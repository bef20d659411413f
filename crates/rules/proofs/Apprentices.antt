-- What apprentices write wrongly comes out as the rules say: one computed proof over the list.
use lib.Dec.{T}
use Rattle.rules.specs.TakingApart.{verdict, admitted, some_agrees, listed, fits, fit, joins, initial, nucleus, final, leftovers}
use Rattle.rules.specs.TonePlace.{tone_place}
use Rattle.rules.specs.Decision.{keeps}
use Rattle.rules.specs.Refusals.{refusal}
use Rattle.rules.specs.WhatComesBack.{commit}
use Rattle.rules.specs.Cards.{every_card}
use Rattle.rules.specs.Apprentices.{places}

pub right_places : T (every_card places)
unfolding verdict admitted some_agrees listed fits fit joins initial nucleus final leftovers tone_place keeps commit refusal
right_places = tt
