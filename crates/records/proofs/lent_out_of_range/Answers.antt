-- `records::lent_out_of_range` meets its contract: each answer is the condition that the question before it settles.
use mathlib.Core.Path.{◌≡◌, refl, sym, ◌∙◌}
use mathlib.Core.Bool.{true, false}
use Prim.Native.Nat.{ℕ}
use native.Mathlib.Omega.{arith}
use borrow.Author.Tests.{not-true, not-false}
use Rattle.records.proofs.Conditions.{by_numbers, by_keys, by_letters}
use Rattle.records.proofs.lent_out_of_range.Goals as goal
use Rattle.records.proofs.lent_out_of_range.Goals.{then-numbers_wrong-places_wrong, else-numbers_wrong-places_wrong}

pub returns-then-not-keys_allowed : goal.returns-then-not-keys_allowed
returns-then-not-keys_allowed c =
    let w = c.args.w.now in
    elim c.if-numbers_wrong-places_wrong.branch [
      | then-numbers_wrong-places_wrong b ↦ c.if-not-keys_allowed.true ∙ sym (by_numbers w c.numbers_wrong.ensures c.places_wrong.ensures b.if-numbers_wrong-places_wrong.true)
      | else-numbers_wrong-places_wrong b ↦
          c.if-not-keys_allowed.true ∙
          sym (by_keys w c.numbers_wrong.ensures c.places_wrong.ensures b.if-numbers_wrong-places_wrong.false b.keys_allowed.ensures (not-true _ (sym b.value-is ∙ c.if-not-keys_allowed.true)))
    ]

pub returns-else-not-keys_allowed : goal.returns-else-not-keys_allowed
returns-else-not-keys_allowed c =
    let w = c.args.w.now in
    elim c.if-numbers_wrong-places_wrong.branch [
      | then-numbers_wrong-places_wrong b ↦
          let no : true ≡ false = sym b.if-numbers_wrong-places_wrong.true ∙ sym b.value-is ∙ c.if-not-keys_allowed.false in
          let z : ◌≡◌ {A = ℕ} 0 1 = cc in
          absurd (omega arith)
      | else-numbers_wrong-places_wrong b ↦
          sym
          (by_letters w c.numbers_wrong.ensures c.places_wrong.ensures b.if-numbers_wrong-places_wrong.false b.keys_allowed.ensures (not-false _ (sym b.value-is ∙ c.if-not-keys_allowed.false))
          refl c.letters_allowed.ensures)
    ]
