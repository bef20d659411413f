-- The text of letters' numbers, made letter by letter, each with its tone, and what comes back of it with a lent output. The crate's proofs show that for a word in range it is what `shown` says.
use Rattle.std.specs.Prelude.{Bool, true, false, ◌||◌, List, [], ◌∷◌, ◌++◌, map, ℕ, suc, eqb, ltb, length, Option, Some, None, Err}
use Rattle.rules.specs.Letters.{no_tone}
use Rattle.rules.specs.TheWord.{letter, most_keys, most_bytes}
use Rattle.rules.specs.TonePlace.{tone_place}
use Rattle.rules.specs.WhatComesBack.{Written}
use Rattle.letters.specs.Writing.{letter_bytes}
use Rattle.output.specs.Front.{put}

-- the tone, or none; and so on the letter at a place of the word
abbrev pub tone_if : Bool → ℕ → ℕ
tone_if b t = elim b [ true ↦ t | false ↦ no_tone ]

abbrev pub tone_on : Option ℕ → ℕ → ℕ → ℕ
tone_on (Some n) t i = tone_if (eqb i n) t
tone_on None t i = no_tone

-- the place as a number, behind the last letter where there is none
abbrev pub toned_at : Option ℕ → ℕ → ℕ
toned_at (Some i) n = i
toned_at None n = n

-- the bytes of letters' numbers, the first of which stands at place i of the word
abbrev pub text_from : Option ℕ → ℕ → ℕ → List ℕ → List ℕ
text_from p t i [] = []
text_from p t i (n ∷ ns) = letter_bytes n (tone_on p t i) ++ text_from p t (suc i) ns

-- the bytes of letters' numbers, with the tone on the one at its place
abbrev pub text_of : List ℕ → ℕ → List ℕ
text_of ns t = text_from (tone_place (map letter ns) t) t 0 ns

-- what is made in an output with room for any text; of more than 32 letters, or in a shorter output, nothing
unfoldable pub room_text : List ℕ → ℕ → List ℕ → List ℕ
room_text ns t out = elim (ltb most_keys (length ns) || ltb (length out) most_bytes) [ true ↦ [] | false ↦ text_of ns t ]

-- put into the output; of more than 32 letters there is none, refusal 2 with 32
abbrev pub text_unless : Bool → List ℕ → ℕ → List ℕ → Written
text_unless true ns t out = record { answer = Err (record { number = 2; value = most_keys }); output = out }
text_unless false ns t out = put (text_of ns t) out

unfoldable pub text_out : List ℕ → ℕ → List ℕ → Written
text_out ns t out = text_unless (ltb most_keys (length ns)) ns t out
