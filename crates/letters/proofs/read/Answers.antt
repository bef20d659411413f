-- `letters::read` meets its contract: each way out, by the bytes that are left at the place.
use mathlib.Core.Path.{◌∙◌}
use native.Mathlib.Omega.{arith}
use Rattle.letters.proofs.Agrees.{at_front, read_end, read_one, cut_at_one, read_two, cut_at_two, read_three}
use Rattle.letters.proofs.read.Goals as goal

pub returns-in_err-get : goal.returns-in_err-get
returns-in_err-get c = c.from_residual.ensures ∙ read_end c.args.text.now c.args.at (grind (arith, c.in_err-get.ensures.lookup))

pub returns-in-len1-up : goal.returns-in-len1-up
returns-in-len1-up c =
    let left = c.in_ok-get.ensures.lookup.0 in
    let bs = c.in_ok-get.field-0.now in
    c.one_byte.ensures ∙ read_one bs 0 (omega arith) (omega arith) ∙ at_front c.args.text.now c.args.at bs left.2

pub returns-in-len2-up : goal.returns-in-len2-up
returns-in-len2-up c =
    let left = c.in_ok-get.ensures.lookup.0 in
    let bs = c.in_ok-get.field-0.now in
    c.two_bytes.ensures ∙ read_two bs 0 (omega arith) (omega arith) (omega arith) (omega arith) ∙ at_front c.args.text.now c.args.at bs left.2

pub returns-in-len3-up : goal.returns-in-len3-up
returns-in-len3-up c =
    let left = c.in_ok-get.ensures.lookup.0 in
    let bs = c.in_ok-get.field-0.now in
    c.three_bytes.ensures ∙ read_three bs 0 (omega arith) (omega arith) (omega arith) (omega arith) (omega arith) ∙ at_front c.args.text.now c.args.at bs left.2

pub returns-in_default : goal.returns-in_default
returns-in_default c =
    let left = c.in_ok-get.ensures.lookup.0 in
    let bs = c.in_ok-get.field-0.now in
    read_end bs 0 (omega arith) ∙ at_front c.args.text.now c.args.at bs left.2

pub returns-in_default-2 : goal.returns-in_default-2
returns-in_default-2 c =
    let left = c.in_ok-get.ensures.lookup.0 in
    let bs = c.in_ok-get.field-0.now in
    cut_at_one bs 0 (omega arith) (omega arith) (omega arith) ∙ at_front c.args.text.now c.args.at bs left.2

pub returns-in_default-3 : goal.returns-in_default-3
returns-in_default-3 c =
    let left = c.in_ok-get.ensures.lookup.0 in
    let bs = c.in_ok-get.field-0.now in
    cut_at_two bs 0 (omega arith) (omega arith) (omega arith) (omega arith) (omega arith) ∙ at_front c.args.text.now c.args.at bs left.2
