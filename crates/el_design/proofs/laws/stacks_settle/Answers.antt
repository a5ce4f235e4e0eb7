use Rattle.el_design.proofs.laws.stacks_settle.Goals as goal
use Rattle.el_design.proofs.Settling as law

pub returns : goal.returns
returns c = law.stacks_settle
