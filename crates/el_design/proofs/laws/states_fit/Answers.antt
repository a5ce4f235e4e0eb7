use Rattle.el_design.proofs.laws.states_fit.Goals as goal
use Rattle.el_design.proofs.FitStates as law

pub returns-clause-start : goal.returns-clause-start
returns-clause-start c = λ d sound. law.starts_fit d sound

pub returns-clause-event : goal.returns-clause-event
returns-clause-event c = λ d sound. law.take_fits d sound

pub returns-clause-next_edge : goal.returns-clause-next_edge
returns-clause-next_edge c = λ d sound. law.continues_fit d
