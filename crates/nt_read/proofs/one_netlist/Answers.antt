use Rattle.nt_read.proofs.Reading.{one}
use Rattle.nt_read.proofs.one_netlist.Goals as goal

pub returns : goal.returns
returns c = one
