use Rattle.el_design.proofs.laws.every_stimulus_runs.Goals as goal
use Rattle.el_design.proofs.OneRun as law

pub returns : goal.returns
returns c = law.every_stimulus_runs
