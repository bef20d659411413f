-- `playing::blocks::Window::first_mode` meets its contract: the mode that is found in the part is that of the whole recording.
use Rattle.std.proofs.Common.{sym, ap, ◌∙◌, arith}
use Rattle.recording.specs.Recordings.{begin}
use Rattle.playing.specs.Parts.{shown_in}
use Rattle.playing.proofs.Parts.{same_mode}
use Rattle.playing.proofs.Shorts.{take_least}
use Rattle.playing.proofs.blocks.Window.first_mode.Goals as goal

pub returns : goal.returns
returns c s rest part enough =
    let w = c.args.self in
    same_mode s (shown_in w c.args.block.now) rest part enough ∙
    ap begin (sym (take_least w.end c.min-n.result c.args.block.now (omega (arith, c.min-n.ensures)))) ∙ sym c.begin.ensures
