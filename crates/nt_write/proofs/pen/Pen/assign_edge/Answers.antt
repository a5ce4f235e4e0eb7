use Rattle.nt_write.proofs.Assigning.{assigns}
use Rattle.nt_write.proofs.pen.Pen.assign_edge.Goals as goal

pub returns : goal.returns
returns g c = assigns _ c.put.ensures c.put-2.ensures c.driven_by.ensures
