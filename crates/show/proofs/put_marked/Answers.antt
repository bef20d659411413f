-- `show::put_marked` meets its contract: the bytes of the letter's code point, put.
use mathlib.Core.Path.{◌≡◌, ap, ◌∙◌}
use mathlib.Core.List.{List}
use Prim.Native.Nat.{ℕ, ◌+◌}
use lib.ListN.{length}
use lib.Seq.{sets}
use Rattle.letters.specs.Writing.{point_or, bytes_if, letter_bytes}
use Rattle.letters.proofs.Writes.{point_bytes}
use Rattle.show.proofs.put_marked.Goals as goal

bytes_of : {p : ℕ} (n t : ℕ) → p ≡ point_or n t → bytes_if p ≡ letter_bytes n t
bytes_of n t e = ap bytes_if e ∙ point_bytes n t

pub returns : goal.returns
returns c =
    let args = c.args in
    let same = bytes_of args.letter args.tone c.point.ensures in (
      c.put_point.ensures.0 ∙ ap (λ (x : List ℕ). args.at + length x) same,
      c.put_point.ensures.1 ∙ ap (sets args.text.now args.at) same,
    )
