-- `syllable::nuclei::some_agrees` meets its contract: an empty nucleus agrees with none, and of the others the three with its base letters are asked.
use mathlib.Core.Path.{◌≡◌, sym, ap, ◌∙◌}
use mathlib.Core.Bool.{Bool, ◌||◌}
use mathlib.Core.List.{List, []}
use Prim.Native.Nat.{ℕ}
use lib.ListN.{get_or}
use Rattle.std.proofs.Math.Bool.{or_assoc}
use Rattle.rules.specs.TakingApart.{could_be}
use Rattle.syllable.specs.Nuclei.{row_of, with_bases}
use Rattle.syllable.proofs.Bases.{short_with}
use Rattle.syllable.proofs.Searches.{empty, some_is}
use Rattle.syllable.proofs.nuclei.some_agrees.Goals as goal
use Rattle.syllable.proofs.nuclei.some_agrees.Goals.{then-could_be, else-could_be}

pub returns-then-nuc-eq-NONE : goal.returns-then-nuc-eq-NONE
returns-then-nuc-eq-NONE c w v f i n e = empty n w f c.if-nuc-eq-NONE.true

pub returns-then-could_be-2 : goal.returns-then-could_be-2
returns-then-could_be-2 c w v f i n e =
    let q = c.plain.result in
    let z0 = get_or (with_bases q) 0 [] in
    let z1 = get_or (with_bases q) 1 [] in
    let z2 = get_or (with_bases q) 2 [] in
    let a0 = could_be w v f (row_of z0) z0 in
    let a1 = could_be w v f (row_of z1) z1 in
    let a2 = could_be w v f (row_of z2) z2 in
    let first = c.could_be.ensures w v f z0 i n e (record { is = ap (λ (ns : List ℕ). get_or ns 0 0) c.with_bases.ensures.0; short = short_with q 0 }) in
    let two : c.if-could_be.value ≡ a0 || a1 =
    elim c.if-could_be.branch [
      | then-could_be k ↦ k.value-is ∙ k.if-could_be.true ∙ ap (λ (t : Bool). t || a1) (sym k.if-could_be.true ∙ first)
      | else-could_be k ↦
          k.value-is ∙ k.could_be-else-could_be.ensures w v f z1 i n e (record { is = ap (λ (ns : List ℕ). get_or ns 1 0) c.with_bases.ensures.0; short = short_with q 1 }) ∙ ap (λ (t : Bool). t || a1) (sym k.if-could_be.false ∙ first)
    ] in
    c.if-could_be-2.true ∙ ap (λ (t : Bool). t || a2) (sym c.if-could_be-2.true ∙ two) ∙ or_assoc a0 a1 a2 ∙ some_is n w f q c.plain.ensures c.if-nuc-eq-NONE.false c.with_bases.ensures.1

pub returns-else-could_be-2 : goal.returns-else-could_be-2
returns-else-could_be-2 c w v f i n e =
    let q = c.plain.result in
    let z0 = get_or (with_bases q) 0 [] in
    let z1 = get_or (with_bases q) 1 [] in
    let z2 = get_or (with_bases q) 2 [] in
    let a0 = could_be w v f (row_of z0) z0 in
    let a1 = could_be w v f (row_of z1) z1 in
    let a2 = could_be w v f (row_of z2) z2 in
    let first = c.could_be.ensures w v f z0 i n e (record { is = ap (λ (ns : List ℕ). get_or ns 0 0) c.with_bases.ensures.0; short = short_with q 0 }) in
    let two : c.if-could_be.value ≡ a0 || a1 =
    elim c.if-could_be.branch [
      | then-could_be k ↦ k.value-is ∙ k.if-could_be.true ∙ ap (λ (t : Bool). t || a1) (sym k.if-could_be.true ∙ first)
      | else-could_be k ↦
          k.value-is ∙ k.could_be-else-could_be.ensures w v f z1 i n e (record { is = ap (λ (ns : List ℕ). get_or ns 1 0) c.with_bases.ensures.0; short = short_with q 1 }) ∙ ap (λ (t : Bool). t || a1) (sym k.if-could_be.false ∙ first)
    ] in
    let third = c.could_be-else-could_be-2.ensures w v f z2 i n e (record { is = ap (λ (ns : List ℕ). get_or ns 2 0) c.with_bases.ensures.0; short = short_with q 2 }) in
    third ∙ ap (λ (t : Bool). t || a2) (sym c.if-could_be-2.false ∙ two) ∙ or_assoc a0 a1 a2 ∙ some_is n w f q c.plain.ensures c.if-nuc-eq-NONE.false c.with_bases.ensures.1
