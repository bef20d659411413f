-- `step::edits::horn_edit` meets its contract: the o alone, the pair, or the single letter, lies in the word.
use mathlib.Core.Path.{sym, ◌∙◌}
use native.Mathlib.Omega.{arith}
use Rattle.rules.specs.Letters.{horn}
use Rattle.step.proofs.Aimings.{as_found, alone_inside, horn_alone, alone_aimed, horn_pair, pair_aimed, horn_single, single_there}
use Rattle.step.proofs.edits.horn_edit.Goals as goal

pub overflow_sub-o : goal.overflow_sub-o
overflow_sub-o c = omega (arith, alone_inside c.args.letters.now (sym c.horns_o_alone.ensures ∙ c.if-horns_o_alone.true))

pub at-requires : goal.at-requires
at-requires c = alone_aimed c.args.letters.now c.requires (sym c.horns_o_alone.ensures ∙ c.if-horns_o_alone.true)

pub returns-then-horns_o_alone : goal.returns-then-horns_o_alone
returns-then-horns_o_alone c = as_found horn (horn_alone c.args.letters.now (sym c.horns_o_alone.ensures ∙ c.if-horns_o_alone.true)) c.at.ensures

pub both-requires : goal.both-requires
both-requires c = pair_aimed c.args.letters.now c.requires (sym c.pair.ensures ∙ c.in-Some.is)

pub returns-in-Some : goal.returns-in-Some
returns-in-Some c = as_found horn (horn_pair c.args.letters.now (sym c.horns_o_alone.ensures ∙ c.if-horns_o_alone.false) (sym c.pair.ensures ∙ c.in-Some.is)) c.both.ensures

pub at_place-requires : goal.at_place-requires
at_place-requires c = single_there c.args.letters.now c.requires c.single-place.ensures

pub returns : goal.returns
returns c = as_found horn (horn_single c.args.letters.now (sym c.horns_o_alone.ensures ∙ c.if-horns_o_alone.false) (sym c.pair.ensures ∙ c.in_default.is) c.single-place.ensures) c.at_place.ensures
