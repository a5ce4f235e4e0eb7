use Rattle.el_witness.proofs.rules.two_writers.Goals as goal
use Rattle.el_witness.proofs.RuleRows as row

pub returns-clause-write_both : goal.returns-clause-write_both
returns-clause-write_both c = row.write_both

pub returns-clause-update_both : goal.returns-clause-update_both
returns-clause-update_both c = row.update_both
