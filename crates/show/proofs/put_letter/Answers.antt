-- `show::put_letter` meets its contract: the tone's letter, a letter that is its own byte, or another.
use mathlib.Core.Path.{sym, ap, ◌∙◌}
use mathlib.Core.Bool.{Bool}
use Prim.Native.Nat.{◌+◌}
use native.Mathlib.Omega.{arith}
use lib.ListN.{length}
use lib.Seq.{sets}
use Rattle.letters.specs.Writing.{letter_bytes}
use Rattle.letters.proofs.Writes.{own_byte, fits_a_byte}
use Rattle.show.specs.Filling.{tone_if}
use Rattle.show.proofs.Puts.{one_put}
use Rattle.show.proofs.put_letter.Goals as goal

pub returns-then-toned : goal.returns-then-toned
returns-then-toned c =
    let args = c.args in (
      c.put_marked.ensures.0 ∙ ap (λ (b : Bool). args.at + length (letter_bytes args.letter (tone_if b args.tone))) (sym c.if-toned.true),
      c.put_marked.ensures.1 ∙ ap (λ (b : Bool). sets args.text.now args.at (letter_bytes args.letter (tone_if b args.tone))) (sym c.if-toned.true),
    )

pub overflow_cast-text : goal.overflow_cast-text
overflow_cast-text c =
    let args = c.args in
    omega (arith, fits_a_byte args.letter (sym c.is_plain.ensures ∙ c.if-is_plain.true))

pub returns-then-is_plain : goal.returns-then-is_plain
returns-then-is_plain c =
    let args = c.args in
    let own = own_byte args.letter (sym c.is_plain.ensures ∙ c.if-is_plain.true) in
    let p = one_put args.text.now args.at (letter_bytes args.letter (tone_if args.toned args.tone)) args.letter (ap (λ (b : Bool). letter_bytes args.letter (tone_if b args.tone)) c.if-toned.false ∙ sym own) in
    (p.next, p.bytes)

pub returns : goal.returns
returns c =
    let args = c.args in (
      c.put_marked-2.ensures.0 ∙ ap (λ (b : Bool). args.at + length (letter_bytes args.letter (tone_if b args.tone))) (sym c.if-toned.false),
      c.put_marked-2.ensures.1 ∙ ap (λ (b : Bool). sets args.text.now args.at (letter_bytes args.letter (tone_if b args.tone))) (sym c.if-toned.false),
    )
