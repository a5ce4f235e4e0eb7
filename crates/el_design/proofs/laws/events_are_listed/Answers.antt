use Rattle.el_design.proofs.laws.events_are_listed.Goals as goal
use Rattle.el_design.proofs.Ready as law

pub returns : goal.returns
returns c = law.events_are_listed
