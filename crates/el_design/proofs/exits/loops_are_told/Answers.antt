use Rattle.el_design.proofs.exits.loops_are_told.Goals as goal
use Rattle.el_design.proofs.LoopsTold as law

pub returns : goal.returns
returns c = law.loops_are_told
