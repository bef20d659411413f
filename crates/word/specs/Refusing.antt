-- The refusals: of typing a list, which stands beside a new Telex word, and of a word that is out of range.
use Rattle.std.specs.Prelude.{true, false, ℕ, Result, Ok, Err}
use Rattle.rules.specs.Letters.{telex}
use Rattle.rules.specs.TheWord.{new_word}
use Rattle.rules.specs.Refusals.{out_of_range}
use Rattle.rules.specs.declared.Refusal.{Refusal}
use Rattle.rules.specs.declared.Word.{Word}
use Rattle.rules.specs.declared.TypeAll.{TypeAll}

abbrev pub refused_typing : ℕ → ℕ → TypeAll
refused_typing n v = record { answer = Err (record { number = n; value = v }); word = new_word telex }

abbrev pub range_answer : Word → Result (Unit {0}) Refusal
range_answer w = elim (out_of_range w) [ true ↦ Err (record { number = 8; value = 0 }) | false ↦ Ok tt ]
