use Rattle.el_witness.proofs.rules.misfitting_arguments.Goals as goal
use Rattle.el_witness.proofs.RuleRows as row

pub returns-clause-too_few : goal.returns-clause-too_few
returns-clause-too_few c = row.too_few

pub returns-clause-no_target : goal.returns-clause-no_target
returns-clause-no_target c = row.no_target

pub returns-clause-too_many : goal.returns-clause-too_many
returns-clause-too_many c = row.too_many

pub returns-clause-no_result : goal.returns-clause-no_result
returns-clause-no_result c = row.no_result

pub returns-clause-result_dropped : goal.returns-clause-result_dropped
returns-clause-result_dropped c = row.result_dropped

pub returns-clause-bare_in_statement : goal.returns-clause-bare_in_statement
returns-clause-bare_in_statement c = row.bare_in_statement

pub returns-clause-bare_in_net : goal.returns-clause-bare_in_net
returns-clause-bare_in_net c = row.bare_in_net

pub returns-clause-void_in_net : goal.returns-clause-void_in_net
returns-clause-void_in_net c = row.void_in_net

pub returns-clause-no_output : goal.returns-clause-no_output
returns-clause-no_output c = row.no_output

pub returns-clause-import_too_many : goal.returns-clause-import_too_many
returns-clause-import_too_many c = row.import_too_many
