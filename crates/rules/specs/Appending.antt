-- 19 Appending (docs/RULES.md): what an appended letter leaves of the letters before it.
use Rattle.std.specs.Prelude.{◌≡◌, false, not, [], ◌∷◌, ◌++◌, ◌⊎◌, T}
use Prim.Native.Char.{code}
use Rattle.rules.specs.Letters.{Letter, Letters, horn, among, words, one_of, named, is}
use Rattle.rules.specs.TheWord.{State}
use Rattle.rules.specs.KeyRoles.{shaped, takes_second_horn}

-- 19.1 Where an appended letter puts no second horn on, the word has the letters that it had and this one behind
-- them, and its tone and its mark are as they were.
pub record LettersKept (s : State) (k : Letter) (t : State) : Type 0 where
  pub no_horn : T (not (takes_second_horn s k))
  pub then : t ≡ record { letters = s.letters ++ (k ∷ []); tone = s.tone; closed = s.closed }

-- 19.2 Else the word was open, and was h, kh or th, u and ơ, and the letter is an i, u, c, m, n, p or t. The u is
-- then an ư in the same case, and all else is as in 19.1.
pub record UHorned (s : State) (k : Letter) (t : State) : Type 0 where
  pub initial : Letters
  pub u : Letter
  pub o : Letter
  pub word : s.letters ≡ initial ++ (u ∷ o ∷ [])
  pub is_initial : T (one_of initial (words "h kh th"))
  pub is_u : T (is u (named (code "u")))
  pub is_o : T (is o (named (code "ơ")))
  pub open_word : s.closed ≡ false
  pub letter : T (among k.base "iucmnpt")
  pub then : t ≡ record { letters = initial ++ (shaped horn u ∷ o ∷ k ∷ []); tone = s.tone; closed = s.closed }

abbrev pub OneCase : State → Letter → State → Type 0
OneCase s k t = LettersKept s k t ⊎ UHorned s k t
