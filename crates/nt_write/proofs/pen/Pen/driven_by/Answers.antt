use Rattle.nt_write.proofs.Taking.{pieces3}
use Rattle.nt_write.proofs.pen.Pen.driven_by.Goals as goal

pub returns : goal.returns
returns g c = pieces3 c.put.ensures c.node.ensures c.put-2.ensures
