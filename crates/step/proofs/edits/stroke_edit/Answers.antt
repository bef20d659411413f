-- `step::edits::stroke_edit` meets its contract: each answer is what the tests before it leave.
use mathlib.Core.Path.{◌≡◌, sym, ap₂, ◌∙◌}
use mathlib.Core.Bool.{Bool, ◌&&◌, ◌||◌}
use Prim.Native.Nat.{ℕ, ◌<◌}
use native.Mathlib.Omega.{arith}
use lib.Dec.{eqb}
use borrow.Author.Tests.{eqb-false}
use lib.ListN.{length}
use Rattle.step.proofs.Strokes.{stroke_off, stroke_on, stroke_none}
use Rattle.step.proofs.edits.stroke_edit.Goals as goal

-- the test for d, with what was asked
asks : (n : ℕ) {p q r s : Bool} → p ≡ r → q ≡ s → p && (eqb n 1 || q) ≡ r && (eqb n 1 || s)
asks n e f = ap₂ (λ (b c : Bool). b && (eqb n 1 || c)) e f

pub returns-then-is : goal.returns-then-is
returns-then-is c =
    let h : 0 < length c.args.letters.now = omega (arith, eqb-false (length c.args.letters.now) 0 (sym c.is_empty.ensures ∙ c.if-is_empty.false)) in
    stroke_off c.args.letters.now c.requires h c.reshaped.result c.reshaped.ensures (sym c.is.ensures ∙ c.if-is.true)

pub returns-then-is-alone : goal.returns-then-is-alone
returns-then-is-alone c =
    let h : 0 < length c.args.letters.now = omega (arith, eqb-false (length c.args.letters.now) 0 (sym c.is_empty.ensures ∙ c.if-is_empty.false)) in
    stroke_on c.args.letters.now c.requires h c.reshaped-then-is-alone.result c.reshaped-then-is-alone.ensures (sym c.is.ensures ∙ c.if-is.false)
    (sym (asks (length c.args.letters.now) c.is-2.ensures c.admitted.ensures) ∙ c.if-is-alone.true)

pub returns : goal.returns
returns c =
    let h : 0 < length c.args.letters.now = omega (arith, eqb-false (length c.args.letters.now) 0 (sym c.is_empty.ensures ∙ c.if-is_empty.false)) in
    stroke_none c.args.letters.now c.requires h (sym c.is.ensures ∙ c.if-is.false)
    (sym (asks (length c.args.letters.now) c.is-2.ensures c.admitted.ensures) ∙ c.if-is-alone.false)
