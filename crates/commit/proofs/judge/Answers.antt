-- `commit::judge` meets its contract: what is made of the word's letters is its text and its decision, and the ruling follows from the comparison and the decision.
use mathlib.Core.Path.{◌≡◌, sym, ◌∙◌}
use lib.Dec.{lit≤, eqb}
use lib.ListN.{take}
use lib.Pointwise.{pointwise}
use Rattle.std.proofs.Common.{rules}
use Rattle.std.proofs.iter.runs.Made.{chains}
use Rattle.rules.specs.TheWord.{word_of}
use Rattle.rules.specs.Decision.{decision}
use Rattle.rules.proofs.Range.{few_letters}
use Rattle.commit.proofs.Answers.{text_long, compared, decides_so, other_text, kept, restored}
use Rattle.commit.proofs.judge.Goals as goal

pub shared_ref_as_front-letters : goal.shared_ref_as_front-letters
shared_ref_as_front-letters c = few_letters c.args.w.now c.requires

pub returns-then-not-eq : goal.returns-then-not-eq
returns-then-not-eq c =
    let w = c.args.w.now in
    let eq : c.eq.result ≡ pointwise eqb c.args.text.now (take c.in_room-n.result c.in_room-n.new.out) = search (rules, chains) in
    let same = compared w c.requires c.in_room-n.result _ _ (lit≤ tt) c.in_room-n.ensures.0 c.in_room-n.ensures.1 c.args.text.now eq in
    c.refuse.ensures ∙ other_text w c.args.text.now (same ∙ c.if-not-eq.true)

pub returns-in-Keep : goal.returns-in-Keep
returns-in-Keep c =
    let w = c.args.w.now in
    let eq : c.eq.result ≡ pointwise eqb c.args.text.now (take c.in_room-n.result c.in_room-n.new.out) = search (rules, chains) in
    let same = compared w c.requires c.in_room-n.result _ _ (lit≤ tt) c.in_room-n.ensures.0 c.in_room-n.ensures.1 c.args.text.now eq in
    let long = text_long w c.requires c.in_room-n.result _ _ (lit≤ tt) c.in_room-n.ensures.0 c.in_room-n.ensures.1 in
    let by_word : c.decided.result ≡ decision (word_of w) = decides_so w _ _ c.verdict-verdict.ensures c.decided.ensures in
    kept w c.args.text.now c.in_room-n.result (same ∙ c.if-not-eq.false) long (sym by_word ∙ c.in-Keep.is)

pub returns-in-Restore : goal.returns-in-Restore
returns-in-Restore c =
    let w = c.args.w.now in
    let eq : c.eq.result ≡ pointwise eqb c.args.text.now (take c.in_room-n.result c.in_room-n.new.out) = search (rules, chains) in
    let same = compared w c.requires c.in_room-n.result _ _ (lit≤ tt) c.in_room-n.ensures.0 c.in_room-n.ensures.1 c.args.text.now eq in
    let by_word : c.decided.result ≡ decision (word_of w) = decides_so w _ _ c.verdict-verdict.ensures c.decided.ensures in
    restored w c.args.text.now (same ∙ c.if-not-eq.false) (sym by_word ∙ c.in-Restore.is)
