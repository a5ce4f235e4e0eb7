use Rattle.std.proofs.Common.{codes, ap, decimal}
use Rattle.nt_write.proofs.Taking.{takes_is, pieces5, ends}
use Rattle.nt_write.proofs.pen.Pen.memory_line.Goals as goal

pub returns : goal.returns
returns g c = ends (codes "];") (pieces5 c.put.ensures c.range.ensures c.memory.ensures c.put-2.ensures (takes_is _ _ _ _ c.number.ensures (ap (λ n. decimal n) c.saturating_sub.ensures))) c.put-3.ensures
