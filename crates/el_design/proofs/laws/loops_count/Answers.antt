use Rattle.el_design.proofs.laws.loops_count.Goals as goal
use Rattle.el_design.proofs.Counts as law

pub returns : goal.returns
returns c = law.loops_count
