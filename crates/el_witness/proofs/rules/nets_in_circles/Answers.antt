use Rattle.el_witness.proofs.rules.nets_in_circles.Goals as goal
use Rattle.el_witness.proofs.RuleRows as row

pub returns-clause-first_net : goal.returns-clause-first_net
returns-clause-first_net c = row.first_net

pub returns-clause-second_net : goal.returns-clause-second_net
returns-clause-second_net c = row.second_net
