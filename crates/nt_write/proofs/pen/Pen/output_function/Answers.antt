use Rattle.nt_write.proofs.Taking.{pieces2, pieces3}
use Rattle.nt_write.proofs.pen.Pen.output_function.Goals as goal

pub returns : goal.returns
returns g c = pieces2 c.put.ensures (pieces3 c.put-2.ensures c.range.ensures c.function_number.ensures)
