use Rattle.el_witness.proofs.rules.wrong_disables.Goals as goal
use Rattle.el_witness.proofs.RuleRows as row

pub returns-clause-in_a_function : goal.returns-clause-in_a_function
returns-clause-in_a_function c = row.in_a_function

pub returns-clause-of_other : goal.returns-clause-of_other
returns-clause-of_other c = row.of_other

pub returns-clause-of_two : goal.returns-clause-of_two
returns-clause-of_two c = row.of_two

pub returns-clause-of_none : goal.returns-clause-of_none
returns-clause-of_none c = row.of_none
