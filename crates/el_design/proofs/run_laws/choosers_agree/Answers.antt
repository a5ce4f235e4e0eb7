use Rattle.el_design.specs.RunLaws.{passed_by}
use Rattle.el_design.proofs.run_laws.choosers_agree.Goals as goal
use Rattle.el_design.proofs.OneRun as law
use Rattle.el_design.proofs.OrderTrace as trace

pub returns-clause-runs : goal.returns-clause-runs
returns-clause-runs c d chooser = law.any_runs d (passed_by chooser)

pub returns-clause-one_trace : goal.returns-clause-one_trace
returns-clause-one_trace c d order checked a b = trace.every_order d order checked (passed_by a) (passed_by b)
