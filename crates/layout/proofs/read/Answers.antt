-- `layout::read` meets its contract: no record, or each part from its place.
use Rattle.layout.proofs.Answers.{another_length, another_mark, all_read}
use Rattle.layout.proofs.read.Goals as goal

pub returns-then-buffer-ne-LENGTH : goal.returns-then-buffer-ne-LENGTH
returns-then-buffer-ne-LENGTH c = another_length c.args.buffer.now c.if-buffer-ne-LENGTH.true

pub returns-then-mark-gt1 : goal.returns-then-mark-gt1
returns-then-mark-gt1 c = another_mark c.args.buffer.now c.if-buffer-ne-LENGTH.false c.if-mark-gt1.true

pub returns : goal.returns
returns c =
    let bs = c.args.buffer.now in
    all_read bs c.if-buffer-ne-LENGTH.false c.if-mark-gt1.false c.copy_from_slice.ensures.after c.letters_in-letters.ensures c.copy_from_slice-2.ensures.after c.copy_from_slice-3.ensures.after
