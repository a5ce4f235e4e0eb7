use Rattle.nt_write.proofs.Taking.{pieces2}
use Rattle.nt_write.proofs.pen.Pen.node.Goals as goal

pub returns : goal.returns
returns g c = pieces2 c.put.ensures c.number.ensures
