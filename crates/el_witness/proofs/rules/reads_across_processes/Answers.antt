use Rattle.el_witness.proofs.rules.reads_across_processes.Goals as goal
use Rattle.el_witness.proofs.RuleRows as row

pub returns-clause-reads_across : goal.returns-clause-reads_across
returns-clause-reads_across c = row.reads_across

pub returns-clause-reads_over_net : goal.returns-clause-reads_over_net
returns-clause-reads_over_net c = row.reads_over_net
