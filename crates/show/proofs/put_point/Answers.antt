-- `show::put_point` meets its contract: no byte for no code point, else one write a byte.
use native.Mathlib.Omega.{arith}
use lib.ListN.{length-set}
use Rattle.show.proofs.Puts.{no_bytes, one_byte, two_bytes, three_bytes, none_put, one_put, two_put, three_put}
use Rattle.show.proofs.put_point.Goals as goal

pub returns-then-point-eq0 : goal.returns-then-point-eq0
returns-then-point-eq0 c =
    let args = c.args in
    let p = none_put args.text.now args.at _ (no_bytes args.point c.if-point-eq0.true) in
    (p.next, p.bytes)

pub returns-then-point-lt128 : goal.returns-then-point-lt128
returns-then-point-lt128 c =
    let args = c.args in
    let p = one_put args.text.now args.at _ args.point (one_byte args.point c.if-point-eq0.false c.if-point-lt128.true) in
    (p.next, p.bytes)

pub bounds-text-at-then-point-lt2048-2 : goal.bounds-text-at-then-point-lt2048-2
bounds-text-at-then-point-lt2048-2 c = simp length-set (omega (arith, c.requires))

pub returns-then-point-lt2048 : goal.returns-then-point-lt2048
returns-then-point-lt2048 c =
    let args = c.args in
    let p = two_put args.text.now args.at _ _ _ (two_bytes args.point c.if-point-eq0.false c.if-point-lt128.false c.if-point-lt2048.true) in
    (p.next, p.bytes)

pub bounds-text-at-3 : goal.bounds-text-at-3
bounds-text-at-3 c = simp length-set (omega (arith, c.requires))

pub bounds-text-at-4 : goal.bounds-text-at-4
bounds-text-at-4 c = simp length-set (omega (arith, c.requires))

pub returns : goal.returns
returns c =
    let args = c.args in
    let p = three_put args.text.now args.at _ _ _ _ (three_bytes args.point c.if-point-eq0.false c.if-point-lt128.false c.if-point-lt2048.false) in
    (p.next, p.bytes)
