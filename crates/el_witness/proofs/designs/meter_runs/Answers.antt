use Rattle.el_witness.proofs.designs.meter_runs.Goals as goal
use Rattle.el_witness.proofs.MeterRuns as law

pub returns-clause-fits : goal.returns-clause-fits
returns-clause-fits c = law.given_fits

pub returns-clause-trace : goal.returns-clause-trace
returns-clause-trace c = law.meter_runs

pub returns-clause-no_other : goal.returns-clause-no_other
returns-clause-no_other c = law.seen_alone
