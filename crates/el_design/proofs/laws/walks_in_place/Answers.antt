use Rattle.el_design.proofs.laws.walks_in_place.Goals as goal
use Rattle.el_design.proofs.Places as law

pub returns : goal.returns
returns c = law.walks_in_place
