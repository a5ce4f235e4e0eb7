use Rattle.el_design.proofs.laws.sizes_are_one.Goals as goal
use Rattle.el_design.proofs.OneSize as law

pub returns : goal.returns
returns c = law.sizes_are_one
