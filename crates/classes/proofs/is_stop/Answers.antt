-- `classes::is_stop` meets its contract: the mark in the class.
use Rattle.classes.specs.LetterClasses.{class_of}
use Rattle.classes.proofs.Entries.{marked}
use Rattle.classes.proofs.is_stop.Goals as goal

pub returns : goal.returns
returns c = (marked (class_of c.args.base) c.class.ensures).stop
