use Rattle.std.proofs.Common.{◌∙◌}
use Rattle.nt_write.proofs.Taking.{takes_is, pieces2, pieces3}
use Rattle.nt_write.proofs.pen.Pen.output_pin.Goals as goal

pub returns : goal.returns
returns g c = pieces2 c.put.ensures (pieces3 c.put-2.ensures c.range.ensures (takes_is _ _ _ _ c.put-3.ensures (c.as_bytes.ensures.value ∙ c.as_str.ensures.text)))
