-- `lines::word_columns` meets its contract: the columns hold the word's text, keys, verdict, tone, place and decision.
use mathlib.Core.Path.{ap, ◌∙◌}
use mathlib.Core.List.{List, [], ◌∷◌, ◌++◌}
use Prim.Native.Nat.{ℕ, ◌≤◌}
use native.Mathlib.Omega.{arith}
use lib.Dec.{lit≤}
use lib.ListN.{length, take, length-take}
use Rattle.rules.specs.TheWord.{most_bytes}
use Rattle.rules.specs.Decision.{handed_back}
use Rattle.rules.specs.Drill.{decimal, or_hyphen, place_column, decision_column}
use Rattle.rules.proofs.Range.{few_letters}
use Rattle.rules.proofs.TextFits.{text_fits}
use Rattle.lines.proofs.Columns.{as_part, and_then_law, hyphen_long, handed_long, decimal_long, place_long, in_six}
use Rattle.lines.proofs.Words.{text_made, its_decision, place_fits, few_typed, its_columns}
use Rattle.lines.proofs.word_columns.Goals as goal

pub shared_ref_as_front-letters : goal.shared_ref_as_front-letters
shared_ref_as_front-letters c = omega (arith, few_letters c.args.w c.requires.1)

pub shared_ref_as_front-keys : goal.shared_ref_as_front-keys
shared_ref_as_front-keys c = omega (arith, few_typed c.args.w c.requires.1)

pub place-requires : goal.place-requires
place-requires c =
    let w = c.args.w in
    let text = text_made w c.requires.1 c.in_room-n.result _ (lit≤ tt) c.in_room-n.ensures.0 _ c.in_room-n.ensures.1 in
    let shown = take c.in_room-n.result c.in_room-n.new.out in
    let keys = take w.typed w.keys in
    let few : length shown ≤ most_bytes = omega (arith, ap length text, text_fits w c.requires.1) in
    let fewer : length keys ≤ most_bytes = simp length-take (omega (arith, few_typed w c.requires.1)) in
    let l = hyphen_long shown 32 in
    let h = ap (λ (k : List ℕ). length (or_hyphen k ++ (32 ∷ []))) c.handed_back.ensures in
    let m = handed_long c.decided-decision.result shown keys 32 few fewer in
    let n = decimal_long c.verdict-verdict.result 32 in
    let o = decimal_long w.tone 32 in
    (omega (arith, c.requires.0, c.text.ensures.moved, c.text-2.ensures.moved, c.number.ensures.moved, c.number-2.ensures.moved), place_fits w c.requires.1 _ c.tone_place-place.ensures)

pub append-requires : goal.append-requires
append-requires c =
    let w = c.args.w in
    let text = text_made w c.requires.1 c.in_room-n.result _ (lit≤ tt) c.in_room-n.ensures.0 _ c.in_room-n.ensures.1 in
    let shown = take c.in_room-n.result c.in_room-n.new.out in
    let keys = take w.typed w.keys in
    let few : length shown ≤ most_bytes = omega (arith, ap length text, text_fits w c.requires.1) in
    let fewer : length keys ≤ most_bytes = simp length-take (omega (arith, few_typed w c.requires.1)) in
    let l = hyphen_long shown 32 in
    let h = ap (λ (k : List ℕ). length (or_hyphen k ++ (32 ∷ []))) c.handed_back.ensures in
    let m = handed_long c.decided-decision.result shown keys 32 few fewer in
    let n = decimal_long c.verdict-verdict.result 32 in
    let o = decimal_long w.tone 32 in
    let p = place_long c.tone_place-place.result 32 in
    omega (arith, c.requires.0, c.text.ensures.moved, c.text-2.ensures.moved, c.number.ensures.moved, c.number-2.ensures.moved, c.place.ensures.moved)

pub returns : goal.returns
returns c =
    let w = c.args.w in
    let text = text_made w c.requires.1 c.in_room-n.result _ (lit≤ tt) c.in_room-n.ensures.0 _ c.in_room-n.ensures.1 in
    let shown = take c.in_room-n.result c.in_room-n.new.out in
    let x = c.decided-decision.result in
    let v = c.verdict-verdict.result in
    let p = c.tone_place-place.result in
    let end = c.args.end in
    as_part
    (in_six (or_hyphen shown) (or_hyphen (handed_back x shown (take w.typed w.keys))) (decimal v) (decimal w.tone) (place_column p) (decision_column x) end ∙
    its_columns w c.requires.1 shown v p x end text c.verdict-verdict.ensures c.tone_place-place.ensures (c.decided-decision.ensures ∙ its_decision w c.requires.1 v c.verdict-verdict.ensures))
    (and_then_law c.text.ensures
    (and_then_law (as_part (ap (λ (l : List ℕ). or_hyphen l ++ (32 ∷ [])) c.handed_back.ensures) c.text-2.ensures)
    (and_then_law c.number.ensures (and_then_law c.number-2.ensures (and_then_law c.place.ensures (as_part (ap (λ (l : List ℕ). l ++ (end ∷ [])) c.letter.ensures) c.append.ensures))))))
