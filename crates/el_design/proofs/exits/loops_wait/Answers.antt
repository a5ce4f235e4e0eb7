use Rattle.el_design.proofs.exits.loops_wait.Goals as goal
use Rattle.el_design.proofs.LengthsWalks as law

pub returns-clause-spins : goal.returns-clause-spins
returns-clause-spins c = law.none_spins

pub returns-clause-bound : goal.returns-clause-bound
returns-clause-bound c = law.process_bounded

pub returns-clause-down : goal.returns-clause-down
returns-clause-down c = law.process_down
