use Rattle.nt_write.proofs.Taking.{pieces3}
use Rattle.nt_write.proofs.pen.Pen.unsigned_by.Goals as goal

pub returns : goal.returns
returns g c = pieces3 c.node.ensures c.put.ensures c.constant.ensures
