-- `word::typed_all` meets its contract. The loop's invariant: the bytes are those of the word with the keys passed, typed.
use mathlib.Core.Path.{◌≡◌}
use lib.ListN.{take}
use Rattle.rules.specs.TheWord.{new_word, holding}
use Rattle.rules.specs.WhatComesBack.{typed}
use Rattle.layout.specs.Places.{as_bytes}
use Rattle.word.proofs.typed_all.Given as goal

abbrev pub invariant-loop-key : goal.invariant-loop-key
invariant-loop-key l = l.bytes ≡ as_bytes (holding (new_word l.mode) (typed l.mode (take l.key-index l.keys)))
