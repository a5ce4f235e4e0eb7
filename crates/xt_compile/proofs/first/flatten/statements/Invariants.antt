use Rattle.std.proofs.Common.{◌≡◌, map, take}
use Rattle.xt_compile.specs.first.Flatten.{statement_of}
use Rattle.xt_compile.proofs.first.flatten.statements.Given as goal

abbrev pub invariant-loop-step : goal.invariant-loop-step
invariant-loop-step l = l.body ≡ map statement_of (take l.step-index l.steps)
