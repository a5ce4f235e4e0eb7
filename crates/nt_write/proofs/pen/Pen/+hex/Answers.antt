use Rattle.nt_write.proofs.Taking.{takes_is, pieces2}
use Rattle.nt_write.proofs.Digits.{hex_more}
use Rattle.nt_write.proofs.pen.Pen.+hex.Goals as goal

pub returns-then-count-gt0 : goal.returns-then-count-gt0
returns-then-count-gt0 g t c = takes_is _ _ _ _ (pieces2 c.hex.ensures c.put.ensures) (hex_more c.args.count c.args.number _ c.if-count-gt0.true c.glyph.ensures)
