use Rattle.nt_write.proofs.Whole.{text_parts}
use Rattle.nt_write.proofs.Taking.{takes_is, pieces6}
use Rattle.nt_write.proofs.pen.Pen.text.Goals as goal

pub returns-clause-takes : goal.returns-clause-takes
returns-clause-takes g c = takes_is _ _ _ _ (pieces6 c.head.ensures c.inputs.ensures c.outputs.ensures c.declarations.ensures c.assigns.ensures c.clock.ensures) (text_parts c.args.netlist.now)
