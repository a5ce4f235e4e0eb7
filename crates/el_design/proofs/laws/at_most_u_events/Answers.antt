use Rattle.el_design.proofs.laws.at_most_u_events.Goals as goal
use Rattle.el_design.proofs.OrderLaws as law

pub returns-clause-counted : goal.returns-clause-counted
returns-clause-counted c = law.at_most_u_events

pub returns-clause-every_loop : goal.returns-clause-every_loop
returns-clause-every_loop c = law.at_most_max_events
