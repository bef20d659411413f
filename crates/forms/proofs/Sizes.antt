-- The sizes on which two models agree: 4,203 valid letter forms, no two equal, none missing, and 18,870 syllables with their tones.
use mathlib.Core.Path.{◌≡◌, refl}
use mathlib.Core.Logic.{◌↔◌}
use Prim.Native.Nat.{ℕ}
use lib.Dec.{T}
use lib.ListN.{length}
use Rattle.rules.specs.Letters.{Letters, one_of}
use Rattle.rules.specs.TakingApart.{final, joins, fit, fits, verdict}
use Rattle.forms.specs.Forms.{all_forms, EveryForm}
use Rattle.forms.specs.Sizes.{with_tones, Different, is_valid}
use Rattle.forms.proofs.Bridge.{passed}
use Rattle.forms.proofs.EachValid.{complete}
use Rattle.forms.proofs.Counted.{ascend, different, every_valid, retoned}

pub letter_forms : length all_forms ≡ 4203
unfolding all_forms joins fit
letter_forms = refl

pub all_different : Different all_forms
all_different = different 0 all_forms ascend

-- in every mix of capitals
pub all_valid : EveryForm is_valid
all_valid = every_valid

pub none_missing : (w : Letters) (t : ℕ) → verdict w t ≡ 0 → T (one_of w all_forms)
none_missing = complete

pub syllables : with_tones all_forms ≡ 18870
unfolding all_forms joins fit fits final
syllables = refl

-- The tones with which a form is valid are those that fit its final, and these are counted.
pub its_tones : (w : Letters) (t u : ℕ) → verdict w t ≡ 0 → verdict w u ≡ 0 ↔ T (fits (final w) u)
its_tones w t u v = (λ x. (passed w u x).tone, retoned w t u v)
