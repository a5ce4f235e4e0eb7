use Rattle.el_witness.proofs.loops.turns_of_loops.Goals as goal
use Rattle.el_witness.proofs.LoopRows as row

pub returns-clause-turns_1025 : goal.returns-clause-turns_1025
returns-clause-turns_1025 c = row.turns_1025

pub returns-clause-never_fails : goal.returns-clause-never_fails
returns-clause-never_fails c = row.never_fails
