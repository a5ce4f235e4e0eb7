use Rattle.el_design.proofs.run_laws.nets_settle.Goals as goal
use Rattle.el_design.proofs.NetEvents as law

pub returns-clause-settled : goal.returns-clause-settled
returns-clause-settled c = law.nets_settle

pub returns-clause-one : goal.returns-clause-one
returns-clause-one c = law.settled_nets_are_one

pub returns-clause-events : goal.returns-clause-events
returns-clause-events c = law.net_events_settle

pub returns-clause-fitting : goal.returns-clause-fitting
returns-clause-fitting c = law.fitting_nets_settle
