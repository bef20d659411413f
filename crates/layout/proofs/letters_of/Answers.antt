-- `layout::letters_of` meets its contract: the letters of no record, or those from their place.
use Rattle.std.specs.Prelude.{Option}
use mathlib.Core.Path.{ap, ◌∙◌}
use Rattle.layout.specs.Places.{or_new}
use Rattle.layout.proofs.Answers.{another_length, another_mark, letters_read}
use Rattle.layout.proofs.letters_of.Goals as goal
use Rattle.rules.specs.declared.Word.{Word}

pub returns-then-buffer-ne-LENGTH : goal.returns-then-buffer-ne-LENGTH
returns-then-buffer-ne-LENGTH c = ap (λ (r : Option Word). (or_new r).letters) (another_length c.args.buffer.now c.if-buffer-ne-LENGTH.true)

pub returns-then-buffer-gt1 : goal.returns-then-buffer-gt1
returns-then-buffer-gt1 c = ap (λ (r : Option Word). (or_new r).letters) (another_mark c.args.buffer.now c.if-buffer-ne-LENGTH.false c.if-buffer-gt1.true)

pub returns : goal.returns
returns c = c.letters_in.ensures ∙ letters_read c.args.buffer.now c.if-buffer-ne-LENGTH.false c.if-buffer-gt1.false
