-- `word::typed_all` meets its contract. The loop's invariant: the bytes are those of the word with the keys passed, typed.
use mathlib.Core.Path.{refl, ap, ◌∙◌}
use native.Mathlib.Omega.{arith}
use lib.ListN.{replicate}
use Rattle.rules.specs.declared.Start.{Start}
use Rattle.layout.specs.Places.{as_bytes}
use Rattle.layout.proofs.Answers.{written}
use Rattle.word.proofs.Lists.{long_so_far, one_more_in, all_typed, started}
use Rattle.word.proofs.typed_all.Goals as goal

pub loop-key-init : goal.loop-key-init
loop-key-init c =
    let own = ap (λ (b : Start). b.word) c.start.ensures ∙ started c.args.mode c.requires.0 in
    c.write.ensures.1 ∙ written c.start.result.word (replicate 169 0) refl ∙ ap as_bytes own

pub slice_bounds-step_at-end : goal.slice_bounds-step_at-end
slice_bounds-step_at-end c = long_so_far c.args.mode c.args.keys.now c.requires.0 c.requires.1 c.requires.2 c.loop-key.key-index (omega arith) c.loop-key.invariant

pub loop-key-preserved : goal.loop-key-preserved
loop-key-preserved c =
    one_more_in c.args.mode c.args.keys.now c.requires.0 c.requires.1 c.requires.2 c.loop-key.key-index c.loop-key-test.true c.loop-key.invariant c.step_at.ensures.1

pub slice_bounds-read-end : goal.slice_bounds-read-end
slice_bounds-read-end c = long_so_far c.args.mode c.args.keys.now c.requires.0 c.requires.1 c.requires.2 c.loop-key.key-index (omega arith) c.loop-key.invariant

pub returns : goal.returns
returns c = c.unwrap_or.ensures ∙ all_typed c.args.mode c.args.keys.now c.requires.0 c.requires.1 c.requires.2 c.loop-key.key-index c.loop-key-test.false (omega arith) _ c.loop-key.invariant c.read.ensures
