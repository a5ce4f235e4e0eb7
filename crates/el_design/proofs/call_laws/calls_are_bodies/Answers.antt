use Rattle.el_design.proofs.call_laws.calls_are_bodies.Goals as goal
use Rattle.el_design.proofs.CallBodies as law

pub returns-clause-value : goal.returns-clause-value
returns-clause-value c = law.calls_are_bodies

pub returns-clause-depth : goal.returns-clause-depth
returns-clause-depth c = law.deep_calls_agree
