use Rattle.el_design.proofs.exits.exits_unfold.Goals as goal
use Rattle.el_design.proofs.ExitsInPlace as law
use Rattle.el_design.proofs.LengthsInPlace as lengths

pub returns-clause-exits : goal.returns-clause-exits
returns-clause-exits c = law.exits_unfold

pub returns-clause-lengths : goal.returns-clause-lengths
returns-clause-lengths c d finite told waits t task marks e = lengths.task_is d told waits finite t task marks e
