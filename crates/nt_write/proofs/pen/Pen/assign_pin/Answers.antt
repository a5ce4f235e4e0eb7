use Rattle.std.proofs.Common.{◌∙◌}
use Rattle.nt_write.proofs.Assigning.{assigns}
use Rattle.nt_write.proofs.Taking.{takes_is}
use Rattle.nt_write.proofs.pen.Pen.assign_pin.Goals as goal

pub returns : goal.returns
returns g c = assigns _ c.put.ensures (takes_is _ _ _ _ c.put-2.ensures (c.as_bytes.ensures.value ∙ c.as_str.ensures.text)) c.driven_by.ensures
