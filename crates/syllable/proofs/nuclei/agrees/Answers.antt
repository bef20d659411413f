-- `syllable::nuclei::agrees` meets its contract: digit by digit.
use mathlib.Core.Path.{◌≡◌, sym, ap, ◌∙◌}
use mathlib.Core.Bool.{Bool, ◌&&◌}
use Rattle.std.proofs.Math.Bool.{and_assoc}
use Prim.Native.Nat.{◌%◌, ◌/◌}
use Rattle.syllable.specs.Numbers.{agree_digit}
use Rattle.syllable.proofs.Agreements.{agree_is}
use Rattle.syllable.proofs.nuclei.agrees.Goals as goal
use Rattle.syllable.proofs.nuclei.agrees.Goals.{then-agrees_at, else-agrees_at}

pub returns-then-agrees_at-2 : goal.returns-then-agrees_at-2
returns-then-agrees_at-2 c v l n z =
    let p = c.args.nuc in
    let q = c.args.z in
    let a = agree_digit (p % 4096) (q % 4096) in
    let b = agree_digit (p / 4096 % 4096) (q / 4096 % 4096) in
    let two : c.if-agrees_at.value ≡ a && b =
    elim c.if-agrees_at.branch [
      | then-agrees_at w ↦ w.value-is ∙ w.agrees_at-then-agrees_at.ensures ∙ ap (λ (t : Bool). t && b) (sym w.if-agrees_at.true ∙ c.agrees_at.ensures)
      | else-agrees_at w ↦ w.value-is ∙ w.if-agrees_at.false ∙ ap (λ (t : Bool). t && b) (sym w.if-agrees_at.false ∙ c.agrees_at.ensures)
    ] in
    let d = agree_digit (p / 4096 / 4096) (q / 4096 / 4096) in
    c.agrees_at-then-agrees_at-2.ensures ∙ ap (λ (t : Bool). t && d) (sym c.if-agrees_at-2.true ∙ two) ∙ and_assoc a b d ∙ agree_is n z

pub returns-else-agrees_at-2 : goal.returns-else-agrees_at-2
returns-else-agrees_at-2 c v l n z =
    let p = c.args.nuc in
    let q = c.args.z in
    let a = agree_digit (p % 4096) (q % 4096) in
    let b = agree_digit (p / 4096 % 4096) (q / 4096 % 4096) in
    let two : c.if-agrees_at.value ≡ a && b =
    elim c.if-agrees_at.branch [
      | then-agrees_at w ↦ w.value-is ∙ w.agrees_at-then-agrees_at.ensures ∙ ap (λ (t : Bool). t && b) (sym w.if-agrees_at.true ∙ c.agrees_at.ensures)
      | else-agrees_at w ↦ w.value-is ∙ w.if-agrees_at.false ∙ ap (λ (t : Bool). t && b) (sym w.if-agrees_at.false ∙ c.agrees_at.ensures)
    ] in
    let d = agree_digit (p / 4096 / 4096) (q / 4096 / 4096) in
    c.if-agrees_at-2.false ∙ ap (λ (t : Bool). t && d) (sym c.if-agrees_at-2.false ∙ two) ∙ and_assoc a b d ∙ agree_is n z
