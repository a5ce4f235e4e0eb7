use Rattle.el_design.proofs.exits.lengths_bound_walks.Goals as goal
use Rattle.el_design.proofs.LengthsAlike as alike
use Rattle.el_design.proofs.LengthsWalks as law

pub returns-clause-bound : goal.returns-clause-bound
returns-clause-bound c d finite told marks s right waiting = law.bound_walks d finite told marks s right waiting

pub returns-clause-down : goal.returns-clause-down
returns-clause-down c d finite told marks s right waiting = law.go_down d finite told marks s right waiting

pub returns-clause-exits : goal.returns-clause-exits
returns-clause-exits c = alike.lengths_are_of_exits
