use Rattle.std.proofs.Common.{decimal, ap}
use Rattle.nt_write.proofs.Taking.{takes_is, pieces3}
use Rattle.nt_write.proofs.Digits.{range_wide}
use Rattle.nt_write.proofs.pen.Pen.range.Goals as goal

pub returns-then-width-ne1 : goal.returns-then-width-ne1
returns-then-width-ne1 g c = takes_is _ _ _ _ (pieces3 c.put.ensures (takes_is _ _ _ _ c.number.ensures (ap (λ n. decimal n) c.saturating_sub.ensures)) c.put-then-width-ne1.ensures) (range_wide c.args.width c.if-width-ne1.true)
