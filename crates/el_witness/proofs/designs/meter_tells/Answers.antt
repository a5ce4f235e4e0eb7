use Rattle.el_witness.proofs.designs.meter_tells.Goals as goal
use Rattle.el_witness.proofs.MeterRuns as law

pub returns-clause-start : goal.returns-clause-start
returns-clause-start c = law.start_told

pub returns-clause-edge_255 : goal.returns-clause-edge_255
returns-clause-edge_255 c = law.told_255

pub returns-clause-edge_5 : goal.returns-clause-edge_5
returns-clause-edge_5 c = law.told_5

pub returns-clause-last : goal.returns-clause-last
returns-clause-last c = law.last_told
