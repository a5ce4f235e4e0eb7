use Rattle.el_design.proofs.progressions.counted_loops_end.Goals as goal
use Rattle.el_design.proofs.CountedLoops as law

pub returns : goal.returns
returns c = law.ends_by_values
