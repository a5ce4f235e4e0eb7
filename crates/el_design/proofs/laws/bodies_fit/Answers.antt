use Rattle.el_design.proofs.laws.bodies_fit.Goals as goal
use Rattle.el_design.proofs.FitStores as law

pub returns : goal.returns
returns c = λ d sound call s store h f. law.body_fits d sound call s h store f
