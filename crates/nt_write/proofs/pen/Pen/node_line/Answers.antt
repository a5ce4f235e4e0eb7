use Rattle.std.proofs.Common.{codes}
use Rattle.nt_write.proofs.Taking.{pieces5, ends}
use Rattle.nt_write.proofs.pen.Pen.node_line.Goals as goal

pub returns : goal.returns
returns g c = ends (codes ";") (pieces5 c.put.ensures c.range.ensures c.node.ensures c.put-2.ensures c.form.ensures) c.put-3.ensures
