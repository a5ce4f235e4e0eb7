use Rattle.el_witness.proofs.designs.longest_loop_is_checked.Goals as goal
use Rattle.el_witness.proofs.LoopRows as row

pub returns : goal.returns
returns c = row.longest_is_checked
