-- `replay::press` meets its contract: a key is kept, and a space commits the word.
use mathlib.Core.Path.{◌≡◌, refl, sym, ap, subst}
use mathlib.Core.Bool.{Bool}
use native.Mathlib.Omega.{arith}
use lib.ListN.{length, take, length-take}
use borrow.Author.Rules.{rules}
use borrow.Author.Tests.{eq-eqb, ne_eqb}
use Rattle.replay.specs.Passes.{FitsKeys, keys_unless}
use Rattle.replay.proofs.Totals.{not_added, added}
use Rattle.replay.proofs.press.Goals as goal

pub bounds-keys-n : goal.bounds-keys-n
bounds-keys-n c = c.requires.4 c.if-key-ne-SPACE.true

pub returns-then-key-ne-SPACE : goal.returns-then-key-ne-SPACE
returns-then-key-ne-SPACE c =
    let a = c.args in
    let p = a.progress in
    let e = ne_eqb a.key 32 c.if-key-ne-SPACE.true in
    let k = not_added p.mode (take p.in_word a.keys.now) a.found.now a.out.now e in
    (k.0, ap (λ (b : Bool). keys_unless b a.keys.now p.in_word a.key) (sym e), k.1)

pub add_word-requires : goal.add_word-requires
add_word-requires c =
    let a = c.args in
    let n = a.progress.in_word in
    let array : length a.keys.now ≡ 32 = search rules in
    let long : length (take n a.keys.now) ≡ n = simp length-take (omega (arith, array, c.requires.1)) in
    (c.requires.0, omega (arith, long, c.requires.1), c.requires.2, subst (FitsKeys a.found.now) (sym long) c.requires.3)

pub returns : goal.returns
returns c =
    let a = c.args in
    let p = a.progress in
    let e = eq-eqb a.key 32 c.if-key-ne-SPACE.false in
    let k = added p.mode (take p.in_word a.keys.now) a.found.now a.out.now e refl c.add_word.ensures.0 c.add_word.ensures.1 in
    (k.0, ap (λ (b : Bool). keys_unless b a.keys.now p.in_word a.key) (sym e), k.1)
