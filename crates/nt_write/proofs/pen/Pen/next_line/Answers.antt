use Rattle.std.proofs.Common.{codes}
use Rattle.nt_write.proofs.Taking.{pieces4, ends}
use Rattle.nt_write.proofs.pen.Pen.next_line.Goals as goal

pub returns : goal.returns
returns g c = ends (codes ";") (pieces4 c.put.ensures c.register.ensures c.put-2.ensures c.node.ensures) c.put-3.ensures
