-- Letters that are a valid syllable's but for their case are valid with the acute, and so admitted.
use mathlib.Core.Path.{◌≡◌, sym, ap, subst, ◌∙◌}
use Prim.Native.Nat.{ℕ}
use lib.Dec.{T, eqb→eq}
use Rattle.rules.specs.Letters.{Letters, acute, same}
use Rattle.rules.specs.TakingApart.{admitted, verdict}
use Rattle.forms.specs.Forms.{all_forms, capitals, in_cases}
use Rattle.forms.specs.Sizes.{is_valid}
use Rattle.forms.proofs.SomeAndEvery.{meet}
use Rattle.forms.proofs.Cases.{same_cased, same_as_cased}
use Rattle.forms.proofs.EachValid.{complete}
use Rattle.forms.proofs.Agreeing.{valid_admitted}
use Rattle.forms.proofs.Counted.{every_valid}

pub any_case : (w : Letters) (t : ℕ) → verdict w t ≡ 0 → (x : Letters) → T (same x w) → verdict x acute ≡ 0
any_case w t v x s =
    let m = meet (same w) (in_cases is_valid (capitals x)) all_forms (complete w t v) (every_valid (capitals x)) in
    let h : T (same x m.here) = subst T (ap (same x) (same_cased w m.here m.one) ∙ same_as_cased (capitals w) x m.here) s in
    eqb→eq (verdict x acute) 0 (subst (λ (z : Letters). T (is_valid z)) (sym (same_cased x m.here h)) m.other)

pub case_admitted : (w : Letters) (t : ℕ) → verdict w t ≡ 0 → (x : Letters) → T (same x w) → T (admitted x)
case_admitted w t v x s = valid_admitted x acute (any_case w t v x s)
