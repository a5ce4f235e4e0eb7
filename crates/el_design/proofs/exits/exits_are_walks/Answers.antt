use Rattle.el_design.proofs.exits.exits_are_walks.Goals as goal
use Rattle.el_design.proofs.ExitsWalks as law

pub returns : goal.returns
returns c = law.exits_are_walks
