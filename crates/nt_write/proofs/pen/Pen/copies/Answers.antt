use Rattle.nt_write.proofs.Taking.{pieces5}
use Rattle.nt_write.proofs.pen.Pen.copies.Goals as goal

pub returns : goal.returns
returns g c = pieces5 c.put.ensures c.number.ensures c.put-2.ensures c.node.ensures c.put-3.ensures
