-- `step::edits::horn_or_breve` meets its contract: the second try where the first is none.
use mathlib.Core.Path.{sym, subst}
use mathlib.Core.List.{List, map}
use Prim.Native.Nat.{ℕ}
use lib.Dec.{lit<}
use Rattle.rules.specs.Letters.{horn, breve}
use Rattle.rules.specs.TheWord.{letter}
use Rattle.rules.specs.KeyRoles.{asked, horned, breved}
use Rattle.step.specs.LentLetters.{Canonical}
use Rattle.step.proofs.Tries.{untouched, second, only_first}
use Rattle.step.proofs.edits.horn_or_breve.Goals as goal

pub last_edit-requires : goal.last_edit-requires
last_edit-requires c = (subst (λ (l : List ℕ). Canonical l) (sym (untouched c.horn_edit-edit.ensures c.in-Nothing.is)) c.requires, lit< tt)

pub returns-in-Nothing : goal.returns-in-Nothing
returns-in-Nothing c = second c.horn_edit-edit.ensures (λ (l : List ℕ). asked breve (breved (map letter l))) c.in-Nothing.is c.last_edit.ensures

pub returns : goal.returns
returns c =
    let w = map letter c.args.letters.now in
    only_first (asked horn (horned w)) (asked breve (breved w)) c.horn_edit-edit.ensures c.in_default.in_default-own.keys2
