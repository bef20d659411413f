-- What comes back of an entry that is past its other refusals and has a text for its lent output.
use Rattle.std.specs.Prelude.{List, ℕ}
use Rattle.rules.specs.Refusals.{refusal}
use Rattle.rules.specs.WhatComesBack.{Written, write_or, room_call}

unfoldable pub put : List ℕ → List ℕ → Written
put text out = write_or (refusal (room_call text out)) text out
