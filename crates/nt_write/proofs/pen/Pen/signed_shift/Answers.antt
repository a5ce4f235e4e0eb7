use Rattle.nt_write.proofs.Taking.{pieces3}
use Rattle.nt_write.proofs.pen.Pen.signed_shift.Goals as goal

pub returns : goal.returns
returns g c = pieces3 c.signed.ensures c.put.ensures c.node.ensures
