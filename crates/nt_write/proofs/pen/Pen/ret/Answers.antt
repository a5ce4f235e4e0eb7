use Rattle.nt_write.proofs.Taking.{pieces3}
use Rattle.nt_write.proofs.pen.Pen.ret.Goals as goal

pub returns : goal.returns
returns g c = pieces3 c.host.ensures c.put.ensures c.number.ensures
