-- Document 01, "The word": the pupil's session record, which holds one word, after a step.
use Rattle.rules.specs.declared.Step.{Step}
use Rattle.session.specs.declared.Session.{Session}

abbrev pub session_of : Step → Session
session_of t = record { word = t.word }
