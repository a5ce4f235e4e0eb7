use Rattle.el_design.proofs.laws.events_tell.Goals as goal
use Rattle.el_design.proofs.Ready as law

pub returns : goal.returns
returns c = law.events_tell
