use Rattle.std.proofs.Common.{codes, ◌∙◌}
use Rattle.nt_write.proofs.Taking.{takes_is, pieces3, ends}
use Rattle.nt_write.proofs.pen.Pen.input_pin.Goals as goal

pub returns : goal.returns
returns g c = ends (codes ",") (pieces3 c.put.ensures c.range.ensures (takes_is _ _ _ _ c.put-2.ensures (c.as_bytes.ensures.value ∙ c.as_str.ensures.text))) c.put-3.ensures
