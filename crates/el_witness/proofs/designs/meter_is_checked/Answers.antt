use Rattle.el_witness.proofs.designs.meter_is_checked.Goals as goal
use Rattle.el_witness.proofs.MeterClean as law

pub returns : goal.returns
returns c = law.meter_is_checked
