use Rattle.el_design.proofs.laws.processes_run.Goals as goal
use Rattle.el_design.proofs.Ready as law

pub returns : goal.returns
returns c = law.processes_run
