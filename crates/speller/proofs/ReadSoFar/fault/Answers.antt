-- `speller::ReadSoFar::fault` meets its contract: 8, the verdict, or by the place of the tone 0 or 9.
use lib.Dec.{eqb}
use Rattle.std.specs.Option.{option_eq}
use mathlib.Core.Path.{◌≡◌, ap, ap₂, sym, ◌∙◌}
use mathlib.Core.Bool.{Bool, true, false}
use mathlib.Core.List.{List, map}
use Prim.Native.Nat.{ℕ}
use Rattle.rules.specs.TakingApart.{verdict}
use Rattle.rules.specs.TonePlace.{tone_place}
use Rattle.rules.specs.TheWord.{letter}
use Rattle.rules.specs.CodePoints.{Sign}
use Rattle.rules.specs.Speller.{letters_in, tone_in, fault}
use Rattle.speller.specs.declared.ReadSoFar.{ReadSoFar}
use Rattle.speller.specs.TextRead.{reading_of}
use Rattle.speller.proofs.Faults.{two_carry, judged, placed}
use Rattle.speller.proofs.ReadSoFar.fault.Goals as goal

-- what is asked in code is asked of the letters read
module _ (r : ReadSoFar) (ns : List ℕ) (at : ℕ) (ss : List Sign) (held : r ≡ reading_of at ss) (e : map letter ns ≡ letters_in ss) where
  verdict_of : (v : ℕ) → v ≡ verdict (map letter ns) r.tone → v ≡ verdict (letters_in ss) (tone_in ss)
  verdict_of v k = k ∙ ap₂ verdict e (ap (λ (x : ReadSoFar). x.tone) held)

  by_place : r.twice ≡ false → (v : ℕ) → v ≡ verdict (map letter ns) r.tone → v ≡ 0
      → (b c : Bool) → b ≡ option_eq eqb r.place (tone_place (map letter ns) r.tone) → b ≡ c → elim c [ true ↦ 0 | false ↦ 9 ] ≡ fault ss
  by_place two v k z b c p q =
      let place = ap (λ (x : ReadSoFar). x.place) held in
      let tone = ap (λ (x : ReadSoFar). x.tone) held in
      placed ss (sym (ap (λ (x : ReadSoFar). x.twice) held) ∙ two) (sym (verdict_of v k) ∙ z) c (sym (ap₂ (option_eq eqb) place (ap₂ tone_place e tone)) ∙ sym p ∙ q)

pub returns-then-self : goal.returns-then-self
returns-then-self c ss at held e = two_carry ss (sym (ap (λ (x : ReadSoFar). x.twice) held) ∙ c.if-self.true)

pub returns-then-verdict-ne0 : goal.returns-then-verdict-ne0
returns-then-verdict-ne0 c ss at held e =
    let args = c.args in
    let v = verdict_of args.self.now args.letters.now at ss held e c.verdict-verdict.result c.verdict-verdict.ensures in
    v ∙ judged ss (sym (ap (λ (x : ReadSoFar). x.twice) held) ∙ c.if-self.false) (λ z. c.if-verdict-ne0.true (v ∙ z))

pub returns-then-eq : goal.returns-then-eq
returns-then-eq c ss at held e =
    let args = c.args in
    by_place args.self.now args.letters.now at ss held e c.if-self.false c.verdict-verdict.result c.verdict-verdict.ensures c.if-verdict-ne0.false c.eq.result true
    (c.eq.ensures ∙ ap (option_eq eqb args.self.now.place) c.tone_place.ensures) c.if-eq.true

pub returns-else-eq : goal.returns-else-eq
returns-else-eq c ss at held e =
    let args = c.args in
    by_place args.self.now args.letters.now at ss held e c.if-self.false c.verdict-verdict.result c.verdict-verdict.ensures c.if-verdict-ne0.false c.eq.result false
    (c.eq.ensures ∙ ap (option_eq eqb args.self.now.place) c.tone_place.ensures) c.if-eq.false
