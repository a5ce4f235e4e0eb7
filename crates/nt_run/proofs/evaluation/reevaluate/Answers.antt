-- Where nothing is acknowledged the values of a settling are the tick's.
use Rattle.std.proofs.Common.{◌∙◌, sym}
use Rattle.nt_run.proofs.Quiet.{quiet-values}
use Rattle.nt_run.proofs.evaluation.reevaluate.Goals as goal

pub returns-else-not-is_quiet : goal.returns-else-not-is_quiet
returns-else-not-is_quiet c =
    c.requires.settled
    ∙ quiet-values c.args.inputs.now.row c.args.acks.now c.args.state.now (sym c.is_quiet.ensures ∙ c.if-not-is_quiet.false) c.args.netlist.now
