use Rattle.nt_write.proofs.Taking.{pieces5}
use Rattle.nt_write.proofs.pen.Pen.choice.Goals as goal

pub returns : goal.returns
returns g c = pieces5 c.node.ensures c.put.ensures c.node-2.ensures c.put-2.ensures c.node-3.ensures
