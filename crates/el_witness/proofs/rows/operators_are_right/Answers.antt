use Rattle.el_witness.proofs.rows.operators_are_right.Goals as goal
use Rattle.el_witness.proofs.OperatorRows as row

pub returns-clause-mentioned : goal.returns-clause-mentioned
returns-clause-mentioned c = row.mentioned

pub returns-clause-arithmetic : goal.returns-clause-arithmetic
returns-clause-arithmetic c = row.arithmetic

pub returns-clause-comparisons : goal.returns-clause-comparisons
returns-clause-comparisons c = row.comparisons

pub returns-clause-logical : goal.returns-clause-logical
returns-clause-logical c = row.logical

pub returns-clause-bitwise : goal.returns-clause-bitwise
returns-clause-bitwise c = row.bitwise

pub returns-clause-reductions : goal.returns-clause-reductions
returns-clause-reductions c = row.reductions

pub returns-clause-shifts : goal.returns-clause-shifts
returns-clause-shifts c = row.shifts

pub returns-clause-put_together : goal.returns-clause-put_together
returns-clause-put_together c = row.put_together

pub returns-clause-names : goal.returns-clause-names
returns-clause-names c = row.names
