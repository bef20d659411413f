-- 15 What apprentices get wrong (docs/RULES.md): what the rules give in each of these places.
use Rattle.std.specs.Prelude.{List, [], ◌∷◌, Some, None}
use Rattle.rules.specs.Letters.{telex}
use Rattle.rules.specs.Cards.{Card, card}
use Rattle.rules.specs.declared.Decision.TheVariants.{Keep, Restore}

-- 15.1 Apprentices go wrong in five places; each stands here as a card with what the rules give.
abbrev pub places : List Card
places =
    -- 15.2 Admission is asked with the shape on: oaw gives oă, and never ơa.
    record { mode = telex; keys = "oaw"; text = "oă"; back = "oaw"; verdict_is = Some 6; tone_is = None; place_is = None; closed_is = None; decision_is = Some Restore } ∷
    -- 15.3 Admission leaves plain letters free: in nguoif the f sets the tone, and is not appended.
    record { mode = telex; keys = "nguoif"; text = "nguòi"; back = "nguoif"; verdict_is = Some 6; tone_is = None; place_is = Some 3; closed_is = None; decision_is = Some Restore } ∷
    -- 15.4 The tone belongs to the word and to no letter: hoasn gives hoán, and not hóan.
    card "hoasn" "hoán" (Some 0) (Some 2) None (Some Keep) ∷
    -- 15.5 The u of qu is in the initial: quas gives quá, and not qúa.
    card "quas" "quá" (Some 0) (Some 2) None (Some Keep) ∷
    -- 15.6 Admission of a shape does not look at the tone: carpa gives cẩp with verdict 7, and the second a is
    -- not appended.
    record { mode = telex; keys = "carpa"; text = "cẩp"; back = "carpa"; verdict_is = Some 7; tone_is = None; place_is = Some 1; closed_is = None; decision_is = Some Restore } ∷
    []
