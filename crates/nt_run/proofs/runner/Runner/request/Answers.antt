-- There is a value of each node's width.
use Rattle.std.proofs.Common.{◌∙◌, ap}
use Rattle.nt_core.specs.Fitting.{value_widths}
use Rattle.nt_run.proofs.runner.Runner.request.Goals as goal

pub is_asking-requires-clause-values : goal.is_asking-requires-clause-values
is_asking-requires-clause-values c =
    ap value_widths c.deref.ensures.value
    ∙ c.self.invariant.values

pub function_number-requires-clause-values : goal.function_number-requires-clause-values
function_number-requires-clause-values c =
    ap value_widths c.deref-then-is_asking.ensures.value
    ∙ c.self.invariant.values
