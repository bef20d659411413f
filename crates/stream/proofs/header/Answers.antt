-- `stream::header` meets its contract, by that of `output::write`.
use mathlib.Core.Path.{sym, ap, ◌∙◌}
use Rattle.output.specs.Front.{put}
use Rattle.lines.specs.Programs.{header_of}
use Rattle.lines.specs.declared.Program.{Program}
use Rattle.stream.proofs.header.Goals as goal

pub returns-in-Drill : goal.returns-in-Drill
returns-in-Drill c =
    let told = c.in-Drill.is in
    let e = c.write.ensures in
    (e.0 ∙ sym (ap (λ (p : Program). (put (header_of p) c.args.out.now).answer) told), e.1 ∙ sym (ap (λ (p : Program). (put (header_of p) c.args.out.now).output) told))

pub returns-in-DrillWithKeys : goal.returns-in-DrillWithKeys
returns-in-DrillWithKeys c =
    let told = c.in-DrillWithKeys.is in
    let e = c.write-in-DrillWithKeys.ensures in
    (e.0 ∙ sym (ap (λ (p : Program). (put (header_of p) c.args.out.now).answer) told), e.1 ∙ sym (ap (λ (p : Program). (put (header_of p) c.args.out.now).output) told))

pub returns-in-Spell : goal.returns-in-Spell
returns-in-Spell c =
    let told = c.in-Spell.is in
    let e = c.write-in-Spell.ensures in
    (e.0 ∙ sym (ap (λ (p : Program). (put (header_of p) c.args.out.now).answer) told), e.1 ∙ sym (ap (λ (p : Program). (put (header_of p) c.args.out.now).output) told))
