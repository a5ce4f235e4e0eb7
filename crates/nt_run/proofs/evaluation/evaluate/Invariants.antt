use Rattle.std.proofs.Common.{length, take}
use Rattle.nt_run.specs.Acknowledged.{driven_by}
use Rattle.nt_run.specs.Order.{marked}
use Rattle.nt_run.proofs.Evaluated.{IsDone}
use Rattle.nt_run.proofs.evaluation.evaluate.Given as goal

abbrev pub invariant-loop-step : goal.invariant-loop-step
invariant-loop-step l = IsDone l.netlist.nodes (record { inputs = driven_by l.inputs.row l.acks; state = l.state })
    (marked (length l.netlist.nodes) (take l.step-index l.steps)) l.values
