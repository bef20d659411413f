-- The tone on a letter, and the text with its place as a number.
use Rattle.std.specs.Prelude.{Option, Some, None}
use mathlib.Core.Path.{◌≡◌, refl, ap, ap₂, ◌∙◌}
use mathlib.Core.Bool.{Bool}
use mathlib.Core.List.{List, [], ◌∷◌, ◌++◌, map}
use Prim.Native.Nat.{ℕ, suc, ◌+◌, ◌≤◌}
use native.Mathlib.Omega.{arith}
use borrow.Author.Tests.{ne_eqb}
use lib.ListN.{length}
use Rattle.rules.specs.TheWord.{letter}
use Rattle.rules.specs.TonePlace.{tone_place}
use Rattle.letters.specs.Writing.{letter_bytes}
use Rattle.show.specs.Filling.{tone_if, toned_at, text_from, text_of}

-- behind the last letter is nowhere
behind : (t n i : ℕ) (ns : List ℕ) → i + length ns ≤ n → text_from (Some n) t i ns ≡ text_from None t i ns
behind t n i [] h = refl
behind t n i (x ∷ ns) h = ap₂ ◌++◌ (ap (λ (b : Bool). letter_bytes x (tone_if b t)) (ne_eqb i n (λ e. omega arith))) (behind t n (suc i) ns (omega arith))

by_number : (t : ℕ) (ns : List ℕ) (p : Option ℕ) → text_from (Some (toned_at p (length ns))) t 0 ns ≡ text_from p t 0 ns
by_number t ns (Some i) = refl
by_number t ns None = behind t (length ns) 0 ns (omega arith)

pub toned_text : (ns : List ℕ) (t r : ℕ) → r ≡ toned_at (tone_place (map letter ns) t) (length ns) → text_from (Some r) t 0 ns ≡ text_of ns t
toned_text ns t r e = ap (λ (n : ℕ). text_from (Some n) t 0 ns) e ∙ by_number t ns (tone_place (map letter ns) t)
