use Rattle.el_witness.proofs.rules.both_assignments.Goals as goal
use Rattle.el_witness.proofs.RuleRows as row

pub returns : goal.returns
returns c = row.writes_both_ways
