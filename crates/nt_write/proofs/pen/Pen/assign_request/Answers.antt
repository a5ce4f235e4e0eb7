use Rattle.nt_write.proofs.Assigning.{assigns}
use Rattle.nt_write.proofs.pen.Pen.assign_request.Goals as goal

pub returns : goal.returns
returns g c = assigns _ c.put.ensures c.request.ensures c.driven_by.ensures
