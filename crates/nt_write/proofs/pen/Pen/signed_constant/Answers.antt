use Rattle.std.proofs.Common.{decimal, ap}
use Rattle.nt_write.proofs.Taking.{takes_is, pieces3}
use Rattle.nt_write.proofs.pen.Pen.signed_constant.Goals as goal

pub returns : goal.returns
returns g c = pieces3 (takes_is _ _ _ _ c.number.ensures (ap (λ n. decimal n) c.width.ensures.width)) c.put.ensures c.value.ensures
