-- `classes::is_initial` meets its contract: the mark in the class.
use Rattle.classes.specs.LetterClasses.{class_of}
use Rattle.classes.proofs.Entries.{marked}
use Rattle.classes.proofs.is_initial.Goals as goal

pub returns : goal.returns
returns c = (marked (class_of c.args.base) c.class.ensures).initial
