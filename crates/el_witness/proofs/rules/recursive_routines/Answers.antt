use Rattle.el_witness.proofs.rules.recursive_routines.Goals as goal
use Rattle.el_witness.proofs.RuleRows as row

pub returns-clause-first_enable : goal.returns-clause-first_enable
returns-clause-first_enable c = row.first_enable

pub returns-clause-second_enable : goal.returns-clause-second_enable
returns-clause-second_enable c = row.second_enable

pub returns-clause-calls_itself : goal.returns-clause-calls_itself
returns-clause-calls_itself c = row.calls_itself
