-- There is a value of each node's width.
use Rattle.std.proofs.Common.{◌∙◌, ap}
use Rattle.nt_core.specs.Fitting.{value_widths}
use Rattle.nt_run.proofs.runner.Runner.arg.Goals as goal

pub argument-requires-clause-values : goal.argument-requires-clause-values
argument-requires-clause-values c =
    ap value_widths c.deref.ensures.value
    ∙ c.self.invariant.values
