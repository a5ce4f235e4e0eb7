use Rattle.nt_read.specs.Words.{greatest}
use Rattle.nt_read.proofs.Lines.{told_on}
use Rattle.nt_read.proofs.sketch.shell.Goals as goal

pub loop-rest-preserved : goal.loop-rest-preserved
loop-rest-preserved c = told_on greatest c.loop-rest.state c.tell.new.state _ c.loop-rest.rest.now c.line.result.0.now c.line.result.1.now c.loop-rest.invariant c.in_ok-tell.ensures c.line.ensures.line c.line.ensures.rest
