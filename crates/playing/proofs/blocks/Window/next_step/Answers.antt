-- `playing::blocks::Window::next_step` meets its contract: the step that is found in the part is the step of the whole recording.
use Rattle.std.proofs.Common.{ℕ, List, sym, ap, ◌∙◌, arith}
use Rattle.recording.specs.Recordings.{step_at}
use Rattle.playing.specs.Parts.{shown_in, later}
use Rattle.playing.proofs.Parts.{same_step}
use Rattle.playing.proofs.Shorts.{take_least}
use Rattle.playing.proofs.blocks.Window.next_step.Goals as goal

pub returns : goal.returns
returns c s rest part enough =
    let w = c.args.self in
    same_step s (shown_in w c.args.block.now) rest w.start part w.at enough c.args.progress ∙
    ap (λ (v : List ℕ). later w.start (step_at v w.at c.args.progress)) (sym (take_least w.end c.min-n.result c.args.block.now (omega (arith, c.min-n.ensures)))) ∙
    ap (later w.start) (sym c.step_at.ensures)
