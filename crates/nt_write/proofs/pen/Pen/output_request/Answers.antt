use Rattle.nt_write.proofs.Taking.{pieces2}
use Rattle.nt_write.proofs.pen.Pen.output_request.Goals as goal

pub returns : goal.returns
returns g c = pieces2 c.put.ensures (pieces2 c.put-2.ensures c.request.ensures)
