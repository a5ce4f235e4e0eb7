use Rattle.el_witness.proofs.rules.inner_host_calls.Goals as goal
use Rattle.el_witness.proofs.RuleRows as row

pub returns-clause-in_statement : goal.returns-clause-in_statement
returns-clause-in_statement c = row.in_statement

pub returns-clause-in_net : goal.returns-clause-in_net
returns-clause-in_net c = row.in_net
