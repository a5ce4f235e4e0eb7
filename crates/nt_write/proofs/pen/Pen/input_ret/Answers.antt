use Rattle.std.proofs.Common.{codes}
use Rattle.nt_write.proofs.Taking.{pieces3, ends}
use Rattle.nt_write.proofs.pen.Pen.input_ret.Goals as goal

pub returns : goal.returns
returns g c = ends (codes ",") (pieces3 c.put.ensures c.range.ensures c.ret.ensures) c.put-2.ensures
