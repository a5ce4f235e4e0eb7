-- the steps so far and the statements that are left give what all give
use Rattle.std.proofs.Common.{◌≡◌, [], drop}
use Rattle.xt_compile.specs.first.Tree.{steps_from}
use Rattle.xt_compile.proofs.first.reader.process.read_steps.Given as goal

abbrev pub invariant-loop-stmt : goal.invariant-loop-stmt
invariant-loop-stmt l = steps_from l.lexed.names l.lexed.places l.ports l.clock [] l.body ≡ steps_from l.lexed.names l.lexed.places l.ports l.clock l.steps (drop l.stmt-index l.body)
