-- There is a value of each node's width.
use Rattle.std.proofs.Common.{◌∙◌, ap}
use Rattle.nt_core.specs.Fitting.{value_widths}
use Rattle.nt_run.proofs.runner.Runner.has_unanswered.Goals as goal

pub has_unanswered-requires-clause-values : goal.has_unanswered-requires-clause-values
has_unanswered-requires-clause-values c =
    ap value_widths c.deref.ensures.value
    ∙ c.self.invariant.values
