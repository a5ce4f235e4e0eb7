use Rattle.std.proofs.Common.{codes, ap}
use Rattle.nt_core.specs.Text.{range_text}
use Rattle.nt_write.proofs.Taking.{takes_is, pieces5, ends}
use Rattle.nt_write.proofs.pen.Pen.register_line.Goals as goal

pub returns : goal.returns
returns g c = ends (codes ";") (pieces5 c.put.ensures (takes_is _ _ _ _ c.range.ensures (ap (λ w. range_text w) c.width.ensures.width)) c.register.ensures c.put-2.ensures c.constant.ensures) c.put-3.ensures
