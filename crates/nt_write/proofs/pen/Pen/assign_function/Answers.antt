use Rattle.nt_write.proofs.Assigning.{assigns}
use Rattle.nt_write.proofs.pen.Pen.assign_function.Goals as goal

pub returns : goal.returns
returns g c = assigns _ c.put.ensures c.function_number.ensures c.driven_by.ensures
