use Rattle.el_witness.proofs.rows.targets_are_right.Goals as goal
use Rattle.el_witness.proofs.OperatorRows as row

pub returns-clause-stored : goal.returns-clause-stored
returns-clause-stored c = row.stored

pub returns-clause-copied : goal.returns-clause-copied
returns-clause-copied c = row.copied_out

pub returns-clause-wide_loop : goal.returns-clause-wide_loop
returns-clause-wide_loop c = row.wide_loop_is_sound
