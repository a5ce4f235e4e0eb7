use Rattle.el_design.proofs.witnesses.designs_are_checked.Goals as goal
use Rattle.el_design.proofs.TwoWaits as law

pub returns : goal.returns
returns c = record { two_waits = law.checked }
