use Rattle.nt_write.proofs.Taking.{pieces6}
use Rattle.nt_write.proofs.pen.Pen.slice.Goals as goal

pub returns : goal.returns
returns g c = pieces6 c.node.ensures c.put.ensures c.number.ensures c.put-2.ensures c.number-2.ensures c.put-3.ensures
