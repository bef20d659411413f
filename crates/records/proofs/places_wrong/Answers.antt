-- `records::places_wrong` meets its contract. The loop's invariant: what is asked about and what is left are together all places.
use mathlib.Core.Path.{◌≡◌, refl, sym, ap, ◌∙◌}
use native.Mathlib.Omega.{arith}
use lib.ListN.{length}
use Rattle.std.proofs.Common.{rules, None}
use Rattle.std.proofs.lemmas.Iterator.{empty_from_Zip}
use Rattle.records.proofs.PlacesAsked.{wrong_from, one_more, none_left, with_tone}
use Rattle.records.proofs.places_wrong.Goals as goal

pub loop-i-init : goal.loop-i-init
loop-i-init c =
    let w = c.args.w.now in
    let from = c.into_iter-i-iterator.result in
    let none : from.count ≡ 0 = search rules in
    let by : from.iter.a.rest.now ≡ w.appended_by = search rules in
    let shaped : from.iter.b.rest.now ≡ w.shaped_by = search rules in
    let long : length from.iter.a.rest.now ≡ length from.iter.b.rest.now = search rules in
    ((λ j. wrong_from w.typed w.count (none j) (by j) (shaped j)), long)

pub loop-i-preserved : goal.loop-i-preserved
loop-i-preserved c =
    let w = c.args.w.now in
    let at = c.loop-i.i-iterator in
    let b = c.in-Some.field-0-1-0.now in
    let s = c.in-Some.field-0-1-1.now in
    let steps = c.in-Some.ensures.steps in
    let long : length c.next.new.self.iter.a.rest.now ≡ length c.next.new.self.iter.b.rest.now = omega (arith, ap length steps.0.0, ap length steps.0.1, c.loop-i.invariant.1) in
    (one_more w.typed w.count at.count b s c.loop-i.wrong steps.1 steps.2 steps.0.0 steps.0.1 c.keys_for.ensures ∙ c.loop-i.invariant.0, long)

pub returns : goal.returns
returns c =
    let w = c.args.w.now in
    let at = c.loop-i.i-iterator in
    let spent = empty_from_Zip at.iter c.next.new.self.iter None refl c.in-None.ensures.steps.0 c.loop-i.invariant.1 in
    let long : length w.appended_by ≡ length w.shaped_by = search rules in
    with_tone w.typed w.count w.appended_by w.shaped_by w.toned_by long (sym (none_left w.typed w.count at.count c.loop-i.wrong spent.0 spent.1) ∙ c.loop-i.invariant.0) c.keys_for-2.ensures
