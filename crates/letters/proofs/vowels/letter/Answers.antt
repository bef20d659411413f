-- `letters::vowels::letter` meets its contract: one test, computed over the twelve letters.
use Rattle.std.proofs.Common.{◌≡◌, ℕ, suc, ◌<◌, Bool, false, ◌&&◌, get_or}
use lib.Dec.{T, eqb, eqb→eq, ltb, leb→le}
use lib.Ieee.Fits.{and_l, and_r}
use Rattle.rules.specs.TheWord.{number}
use Rattle.rules.specs.CodePoints.{vowels}
use Rattle.rules.proofs.Tables.{entry}
use Rattle.letters.specs.Rows.{letter_of, cased}
use Rattle.letters.proofs.Points.{numbers}
use Rattle.letters.proofs.vowels.letter.Goals as goal

abbrev right : ℕ → ℕ → Bool
right k n = eqb n (number (cased false (letter_of k))) && ltb n 2048

split : (k n : ℕ) → T (right k n) → (n ≡ number (cased false (letter_of k))) × (n < 2048)
split k n t = (eqb→eq n (number (cased false (letter_of k))) (search and_l), leb→le (suc n) 2048 (search and_r))

pub returns : goal.returns
unfolding letter_of
returns c = split c.args.row (get_or (numbers vowels) c.args.row 0) (entry right (numbers vowels) tt c.args.row c.requires)
