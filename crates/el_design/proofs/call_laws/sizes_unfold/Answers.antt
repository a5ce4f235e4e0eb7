use Rattle.el_design.proofs.call_laws.sizes_unfold.Goals as goal
use Rattle.el_design.proofs.SizeBodies as law

pub returns-clause-enables : goal.returns-clause-enables
returns-clause-enables c = law.enables_count_bodies

pub returns-clause-calls : goal.returns-clause-calls
returns-clause-calls c = law.calls_count_bodies

pub returns-clause-stops : goal.returns-clause-stops
returns-clause-stops c = law.enables_stop_in_bodies
