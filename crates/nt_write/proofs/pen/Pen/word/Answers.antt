use Rattle.nt_write.proofs.Taking.{pieces4}
use Rattle.nt_write.proofs.pen.Pen.word.Goals as goal

pub returns : goal.returns
returns g c = pieces4 c.memory.ensures c.put.ensures c.node.ensures c.put-2.ensures
