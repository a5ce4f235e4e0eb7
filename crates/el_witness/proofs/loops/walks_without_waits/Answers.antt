use Rattle.el_witness.proofs.loops.walks_without_waits.Goals as goal
use Rattle.el_witness.proofs.LoopRows as row

pub returns-clause-branch_without_wait : goal.returns-clause-branch_without_wait
returns-clause-branch_without_wait c = row.branch_without_wait

pub returns-clause-loop_without_wait : goal.returns-clause-loop_without_wait
returns-clause-loop_without_wait c = row.loop_without_wait

pub returns-clause-function_without_wait : goal.returns-clause-function_without_wait
returns-clause-function_without_wait c = row.function_without_wait
