use Rattle.nt_write.proofs.Assigning.{assigns}
use Rattle.nt_write.proofs.pen.Pen.assign_arg.Goals as goal

pub returns : goal.returns
returns g c = assigns _ c.put.ensures c.arg.ensures c.driven_by.ensures
