-- What is said of a syllable typed and of the speller: keys that give it, a syllable spelled back, a text accepted, and what an accepted call leaves.
use Rattle.std.specs.Prelude.{◌≡◌, List, ℕ, ◌≤◌, T, length, Ok}
use Rattle.rules.specs.Letters.{Letters}
use Rattle.rules.specs.TakingApart.{verdict}
use Rattle.rules.specs.TheWord.{new_word, holding, at_front}
use Rattle.rules.specs.KeyRoles.{is_key}
use Rattle.rules.specs.Decision.{decision}
use Rattle.rules.specs.Refusals.{all}
use Rattle.rules.specs.CodePoints.{Sign, signs, shown}
use Rattle.rules.specs.Speller.{reading, read, letters_in, tone_in, fault, standard_keys}
use Rattle.rules.specs.WhatComesBack.{typed, type_all, keys_of, Written, spell}
use Rattle.rules.specs.declared.Decision.TheVariants.{Keep}
use Rattle.rules.specs.Syllables.{Syllable, open_word}

-- Typing these keys from a new word gives this syllable: its exact letters and tone, open, its text, verdict 0, decision keep; the keys are allowed, and few, so the entry that types a list does not refuse them.
pub record Gives (m : ℕ) (ks : List ℕ) (w : Letters) (t : ℕ) : Type 0 where
  pub state : (typed m ks).state ≡ open_word w t
  pub text : shown (typed m ks).state ≡ shown (open_word w t)
  pub verdict_0 : verdict (typed m ks).state.letters (typed m ks).state.tone ≡ 0
  pub kept : decision (typed m ks) ≡ Keep
  pub allowed : T (all (is_key m) ks)
  pub short : length ks ≤ 9
  pub answered : type_all m ks ≡ record { answer = Ok tt; word = holding (new_word m) (typed m ks) }

-- The text of a syllable is read as the letters that were shown, with no fault; the keys are the standard list, and typing them gives the syllable again, with the same text.
pub record SpelledAgain (m : ℕ) (w : Letters) (t : ℕ) : Type 0 where
  pub read_as : read (shown (open_word w t)) ≡ reading (signs w t)
  pub faultless : fault (signs w t) ≡ 0
  pub letters : letters_in (signs w t) ≡ w
  pub tone : tone_in (signs w t) ≡ t
  pub keys : keys_of m (read (shown (open_word w t))) ≡ standard_keys m w t
  pub again : Gives m (keys_of m (read (shown (open_word w t)))) w t

-- Of a text and what is read from it: the letters and the tone read are a valid syllable, what is read is that syllable as shown, and the text is its text.
pub record AcceptedText (text : List ℕ) (ss : List Sign) : Type 0 where
  pub syllable : Syllable (letters_in ss) (tone_in ss)
  pub as_shown : ss ≡ signs (letters_in ss) (tone_in ss)
  pub text_is : text ≡ shown (open_word (letters_in ss) (tone_in ss))

-- The answer is that keys were written: they stand at the front of the output, and the rest is unchanged.
abbrev pub written_keys : List ℕ → List ℕ → Written
written_keys keys out = record { answer = Ok (length keys); output = at_front keys out }

unfoldable pub Writes : ℕ → List ℕ → List ℕ → Type 0
Writes m text out = (n : ℕ) × ((spell m text out).answer ≡ Ok n)
