use Rattle.el_witness.proofs.loops.nesting_of_routines.Goals as goal
use Rattle.el_witness.proofs.LoopRows as row

pub returns-clause-tasks_65 : goal.returns-clause-tasks_65
returns-clause-tasks_65 c = row.tasks_65

pub returns-clause-tasks_double : goal.returns-clause-tasks_double
returns-clause-tasks_double c = row.tasks_double

pub returns-clause-functions_65 : goal.returns-clause-functions_65
returns-clause-functions_65 c = row.functions_65
