use Rattle.el_design.proofs.progressions.values_are_alike.Goals as goal
use Rattle.el_design.proofs.Progression as law

pub returns : goal.returns
returns c = law.takes_all_alike
