-- The class of a base letter: is it a vowel letter, and is it, alone, an initial, a final, a stop of document 01.
use Rattle.std.specs.Prelude.{Bool, true, false, [], ◌∷◌, ℕ, ◌+◌}
use Rattle.rules.specs.Letters.{Letters, small, plain, one_of}
use Rattle.rules.specs.TakingApart.{vowel, initials, finals, stop}

pub record Class : Type 0 where
  pub is_vowel : Bool
  pub is_initial : Bool
  pub is_final : Bool
  pub is_stop : Bool

-- the word that is this letter alone, without a shape
abbrev pub alone : ℕ → Letters
alone b = small b plain ∷ []

abbrev pub class_of : ℕ → Class
class_of b =
    record {
      is_vowel = vowel b;
      is_initial = one_of (alone b) initials;
      is_final = one_of (alone b) finals;
      is_stop = stop (alone b);
    }

-- a class as the sum of its marks: 1 vowel, 2 initial, 4 final, 8 stop
abbrev pub mark_if : Bool → ℕ → ℕ
mark_if true m = m
mark_if false m = 0

abbrev pub marks_of : Class → ℕ
marks_of c = mark_if c.is_vowel 1 + (mark_if c.is_initial 2 + (mark_if c.is_final 4 + mark_if c.is_stop 8))
