-- The tests over the forms, computed: every form, in every mix of capitals, in both modes.
use Prim.Native.Nat.{ℕ}
use lib.Dec.{T}
use Rattle.rules.specs.Letters.{telex, vni}
use Rattle.rules.specs.TakingApart.{initial, nucleus, final, leftovers, joins, fit, some_agrees, admitted}
use Rattle.rules.specs.Refusals.{is_mode}
use Rattle.rules.proofs.Typing.{of_modes}
use Rattle.forms.specs.Forms.{EveryForm}
use Rattle.forms.proofs.Tests.{word_test}
use Rattle.forms.proofs.SevenInitials.{Pass, together}

-- Its bare keys, its marks and its standard list do as they should, in each mode.
telex_0 : Pass (word_test telex) 0
unfolding admitted some_agrees initial nucleus final leftovers joins fit
telex_0 cs = tt

telex_7 : Pass (word_test telex) 7
unfolding admitted some_agrees initial nucleus final leftovers joins fit
telex_7 cs = tt

telex_14 : Pass (word_test telex) 14
unfolding admitted some_agrees initial nucleus final leftovers joins fit
telex_14 cs = tt

telex_21 : Pass (word_test telex) 21
unfolding admitted some_agrees initial nucleus final leftovers joins fit
telex_21 cs = tt

vni_0 : Pass (word_test vni) 0
unfolding admitted some_agrees initial nucleus final leftovers joins fit
vni_0 cs = tt

vni_7 : Pass (word_test vni) 7
unfolding admitted some_agrees initial nucleus final leftovers joins fit
vni_7 cs = tt

vni_14 : Pass (word_test vni) 14
unfolding admitted some_agrees initial nucleus final leftovers joins fit
vni_14 cs = tt

vni_21 : Pass (word_test vni) 21
unfolding admitted some_agrees initial nucleus final leftovers joins fit
vni_21 cs = tt

pub every_word : (mode : ℕ) → T (is_mode mode) → EveryForm (word_test mode)
every_word =
    of_modes (λ mode. EveryForm (word_test mode)) (together (word_test telex) telex_0 telex_7 telex_14 telex_21) (together (word_test vni) vni_0 vni_7 vni_14 vni_21)
