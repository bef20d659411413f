-- Demand 3, second half: for each valid syllable, in both modes and every mix of capitals, its bare letters and then its stroke, shape and tone keys, those it has, in any order and in either case, give that syllable.
use mathlib.Core.List.{List, ◌++◌, map}
use Prim.Native.Nat.{ℕ}
use lib.Dec.{T}
use Rattle.rules.specs.Letters.{Letters}
use Rattle.rules.specs.KeyRoles.{lower}
use Rattle.rules.specs.Speller.{tone_keys}
use Rattle.rules.specs.Refusals.{is_mode}
use Rattle.rules.specs.Syllables.{Syllable, bare_keys, mark_keys, Order}
use Rattle.forms.specs.Spelling.{Gives}
use Rattle.forms.proofs.Typings.{order_gives}

-- ks: any keys whose lower case is the tone key, the stroke key and the shape key of the syllable, those it has, in any order.
-- Gives: the exact letters, with their capitals, the tone, open, the text, verdict 0, decision keep; all keys allowed, at most 9.
pub any_order : (m : ℕ) → T (is_mode m) → (w : Letters) (t : ℕ) → Syllable w t → (ks : List ℕ) → Order (tone_keys m t ++ mark_keys m w) (map lower ks) → Gives m (bare_keys w ++ ks) w t
any_order m mode w t s ks o = order_gives m mode w t s ks o
