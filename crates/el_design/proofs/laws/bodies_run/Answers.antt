use Rattle.el_design.proofs.laws.bodies_run.Goals as goal
use Rattle.el_design.proofs.Bodies as law

pub returns : goal.returns
returns c = law.body_runs
