-- `syllable::ask` meets its contract: each test is document 01's check, and the first that holds is answered.
use mathlib.Core.Path.{◌≡◌, refl, sym, ap, ◌∙◌}
use mathlib.Core.Bool.{not}
use mathlib.Core.List.{map}
use native.Mathlib.Omega.{arith}
use borrow.Author.Tests.{eq-eqb, ne_eqb}
use Rattle.rules.specs.TheWord.{letter}
use Rattle.syllable.specs.Checks.{sixth}
use Rattle.parts.proofs.Splits.{cut}
use Rattle.syllable.proofs.Asks.{answered}
use Rattle.syllable.proofs.ChecksPassed.{begun, whole, fits_first, fitting, decided, as_listed, as_agreeing, is_listed}
use Rattle.syllable.proofs.ask.Goals as goal
use Rattle.syllable.proofs.ask.Goals.{then-listed, else-listed+then-free, else-listed+else-free}

pub slice_bounds-packed-end : goal.slice_bounds-packed-end
slice_bounds-packed-end c = omega (arith, cut c.args.s.now c.apart-parts.result c.apart-parts.ensures)

pub returns-then-i-n : goal.returns-then-i-n
returns-then-i-n c = answered _ _ _ (sym (eq-eqb _ _ c.if-i-n.true) ∙ (cut c.args.s.now c.apart-parts.result c.apart-parts.ensures).none) refl refl refl refl refl refl

pub returns-then-not-known_initial : goal.returns-then-not-known_initial
returns-then-not-known_initial c =
    let b = begun c.apart-parts.ensures c.if-i-n.false c.packed-ini.ensures in
    answered _ _ _ b.one (ap not (sym c.if-not-known_initial.true ∙ c.known_initial.ensures _ b.ini)) refl refl refl refl refl

pub returns-then-f-s : goal.returns-then-f-s
returns-then-f-s c =
    let b = begun c.apart-parts.ensures c.if-i-n.false c.packed-ini.ensures in
    answered _ _ _ b.one (ap not (sym c.if-not-known_initial.false ∙ c.known_initial.ensures _ b.ini)) (ap not (sym (ne_eqb _ _ c.if-f-s.true) ∙ b.parts.left)) refl refl refl refl

pub returns-then-not-initial_fits : goal.returns-then-not-initial_fits
returns-then-not-initial_fits c =
    let b = begun c.apart-parts.ensures c.if-i-n.false c.packed-ini.ensures in
    let w = whole b c.known_initial.ensures c.if-not-known_initial.false c.if-f-s.false c.packed-nuc.ensures in
    answered _ _ _ b.one w.two w.three (ap not (sym c.if-not-initial_fits.true ∙ fits_first w c.first_base.ensures c.initial_fits.ensures)) refl refl refl

pub returns-then-not-known_final : goal.returns-then-not-known_final
returns-then-not-known_final c =
    let b = begun c.apart-parts.ensures c.if-i-n.false c.packed-ini.ensures in
    let w = whole b c.known_initial.ensures c.if-not-known_initial.false c.if-f-s.false c.packed-nuc.ensures in
    let a = fitting w (fits_first w c.first_base.ensures c.initial_fits.ensures) c.if-not-initial_fits.false c.packed-fin.ensures in
    answered _ _ _ b.one w.two w.three a.four (ap not (sym c.if-not-known_final.true ∙ c.known_final.ensures _ a.fin)) refl refl

-- check 6: the nucleus is listed, or its letters are free and some one agrees
pub returns-then-not-some_agrees : goal.returns-then-not-some_agrees
returns-then-not-some_agrees c =
    let b = begun c.apart-parts.ensures c.if-i-n.false c.packed-ini.ensures in
    let w = whole b c.known_initial.ensures c.if-not-known_initial.false c.if-f-s.false c.packed-nuc.ensures in
    let a = fitting w (fits_first w c.first_base.ensures c.initial_fits.ensures) c.if-not-initial_fits.false c.packed-fin.ensures in
    let six : sixth c.args.free (map letter c.args.s.now) ≡ c.if-listed.value =
    elim c.if-listed.branch [
      | then-listed q ↦ is_listed a c.args.free c.listed.ensures q.if-listed.true ∙ sym (q.value-is ∙ q.if-listed.true)
      | else-listed+then-free q ↦ as_agreeing a q.if-free.true q.some_agrees.ensures (sym q.value-is)
      | else-listed+else-free q ↦ as_listed a q.if-free.false c.listed.ensures q.if-listed.false ∙ sym (q.value-is ∙ q.if-free.false)
    ] in
    decided c.args.tone c.args.free a c.known_final.ensures c.if-not-known_final.false (ap not (sym (six ∙ c.if-not-some_agrees.true))) refl

pub returns-then-not-tone_fits : goal.returns-then-not-tone_fits
returns-then-not-tone_fits c =
    let b = begun c.apart-parts.ensures c.if-i-n.false c.packed-ini.ensures in
    let w = whole b c.known_initial.ensures c.if-not-known_initial.false c.if-f-s.false c.packed-nuc.ensures in
    let a = fitting w (fits_first w c.first_base.ensures c.initial_fits.ensures) c.if-not-initial_fits.false c.packed-fin.ensures in
    let six : sixth c.args.free (map letter c.args.s.now) ≡ c.if-listed.value =
    elim c.if-listed.branch [
      | then-listed q ↦ is_listed a c.args.free c.listed.ensures q.if-listed.true ∙ sym (q.value-is ∙ q.if-listed.true)
      | else-listed+then-free q ↦ as_agreeing a q.if-free.true q.some_agrees.ensures (sym q.value-is)
      | else-listed+else-free q ↦ as_listed a q.if-free.false c.listed.ensures q.if-listed.false ∙ sym (q.value-is ∙ q.if-free.false)
    ] in
    decided c.args.tone c.args.free a c.known_final.ensures c.if-not-known_final.false (ap not (sym (six ∙ c.if-not-some_agrees.false))) (ap not (sym c.if-not-tone_fits.true ∙ c.tone_fits.ensures _ a.fin))

pub returns : goal.returns
returns c =
    let b = begun c.apart-parts.ensures c.if-i-n.false c.packed-ini.ensures in
    let w = whole b c.known_initial.ensures c.if-not-known_initial.false c.if-f-s.false c.packed-nuc.ensures in
    let a = fitting w (fits_first w c.first_base.ensures c.initial_fits.ensures) c.if-not-initial_fits.false c.packed-fin.ensures in
    let six : sixth c.args.free (map letter c.args.s.now) ≡ c.if-listed.value =
    elim c.if-listed.branch [
      | then-listed q ↦ is_listed a c.args.free c.listed.ensures q.if-listed.true ∙ sym (q.value-is ∙ q.if-listed.true)
      | else-listed+then-free q ↦ as_agreeing a q.if-free.true q.some_agrees.ensures (sym q.value-is)
      | else-listed+else-free q ↦ as_listed a q.if-free.false c.listed.ensures q.if-listed.false ∙ sym (q.value-is ∙ q.if-free.false)
    ] in
    decided c.args.tone c.args.free a c.known_final.ensures c.if-not-known_final.false (ap not (sym (six ∙ c.if-not-some_agrees.false))) (ap not (sym c.if-not-tone_fits.false ∙ c.tone_fits.ensures _ a.fin))
