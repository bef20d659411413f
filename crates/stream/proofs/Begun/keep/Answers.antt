-- `stream::Begun::keep` meets its contract: kept while there is room.
use Rattle.stream.proofs.Bytes.{has_room, is_full}
use Rattle.stream.proofs.Begun.keep.Goals as goal

pub returns-then-self-lt-MOST : goal.returns-then-self-lt-MOST
returns-then-self-lt-MOST c = has_room c.args.self.now c.args.b c.if-self-lt-MOST.true

pub returns-else-self-lt-MOST : goal.returns-else-self-lt-MOST
returns-else-self-lt-MOST c = is_full c.args.self.now c.args.b c.if-self-lt-MOST.false
