use Rattle.el_design.proofs.run_laws.events_keep.Goals as goal
use Rattle.el_design.proofs.EventsKeep as law

pub returns : goal.returns
returns c = law.events_keep
