-- `syllable::digit_at` meets its contract: a letter there is, and past the end 0.
use mathlib.Core.Path.{◌≡◌, refl, sym, ap, ◌∙◌}
use mathlib.Core.Bool.{true, false}
use native.Mathlib.Omega.{arith}
use Prim.Native.Nat.{ℕ, ◌+◌, ◌*◌, ◌%◌}
use lib.Dec.{ltb}
use lib.ListN.{length, get_or}
use Rattle.std.proofs.lemmas.List.{get_or_read_under}
use borrow.Author.Tests.{ltb-true, ltb-false}
use Rattle.syllable.proofs.PackedWords.{digit_here, digit_past}
use Rattle.syllable.proofs.digit_at.Goals as goal

pub returns-in-Some : goal.returns-in-Some
returns-in-Some c =
    let s = c.args.part.now in
    let i = c.args.i in
    let within : true ≡ ltb i (length s) = c.in-Some.ensures.lookup.0 in
    let e : c.in-Some.field-0.now ≡ get_or s i 0 = get_or_read_under s i (length s) c.in-Some.field-0.now 0 c.in-Some.ensures.lookup.1 (ltb-true i (length s) (sym within)) refl in
    (ap (λ (n : ℕ). 2 * n + 1) (c.from.ensures ∙ ap (λ (n : ℕ). n % 2048) e) ∙ digit_here s i (ltb-true i (length s) (sym within)), omega (arith, c.from.ensures))

pub returns-in-None : goal.returns-in-None
returns-in-None c =
    let s = c.args.part.now in
    let past : false ≡ ltb c.args.i (length s) = c.in-None.ensures.lookup.0 in
    (digit_past s c.args.i (ltb-false c.args.i (length s) (sym past)), omega arith)
