use Rattle.nt_read.specs.Words.{greatest}
use Rattle.nt_read.proofs.Lines.{nodes_on}
use Rattle.nt_read.proofs.forms.nodes.Goals as goal

pub loop-rest-preserved : goal.loop-rest-preserved
loop-rest-preserved c = nodes_on greatest _ c.loop-rest.nodes.items c.tell_node.new.nodes.items _ c.loop-rest.rest.now c.line.result.0.now c.line.result.1.now c.loop-rest.invariant c.in_ok-tell_node.ensures c.line.ensures.line c.line.ensures.rest
