use Rattle.el_witness.proofs.rules.impure_functions.Goals as goal
use Rattle.el_witness.proofs.RuleRows as row

pub returns-clause-holds_back : goal.returns-clause-holds_back
returns-clause-holds_back c = row.holds_back

pub returns-clause-waits_inside : goal.returns-clause-waits_inside
returns-clause-waits_inside c = row.waits_inside

pub returns-clause-names_outside : goal.returns-clause-names_outside
returns-clause-names_outside c = row.names_outside

pub returns-clause-reads_early : goal.returns-clause-reads_early
returns-clause-reads_early c = row.reads_early

pub returns-clause-leaves_result : goal.returns-clause-leaves_result
returns-clause-leaves_result c = row.leaves_result

pub returns-clause-enables_inside : goal.returns-clause-enables_inside
returns-clause-enables_inside c = row.enables_inside

pub returns-clause-calls_inside : goal.returns-clause-calls_inside
returns-clause-calls_inside c = row.calls_inside

pub returns-clause-names_net : goal.returns-clause-names_net
returns-clause-names_net c = row.names_net

pub returns-clause-names_import : goal.returns-clause-names_import
returns-clause-names_import c = row.names_import

pub returns-clause-of_the_module : goal.returns-clause-of_the_module
returns-clause-of_the_module c = row.of_the_module
