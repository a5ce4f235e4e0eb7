use Rattle.std.proofs.Common.{codes}
use Rattle.nt_write.proofs.Taking.{pieces2, pieces6, ends}
use Rattle.nt_write.proofs.pen.Pen.write_line.Goals as goal

pub returns : goal.returns
returns g c = ends (codes ";") (pieces2 (pieces2 (pieces6 c.put.ensures c.node.ensures c.put-2.ensures c.memory.ensures c.put-3.ensures c.node-2.ensures) c.put-4.ensures) c.node-3.ensures) c.put-5.ensures
