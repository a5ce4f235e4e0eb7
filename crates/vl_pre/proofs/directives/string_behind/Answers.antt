use Rattle.std.proofs.Common.{rules}
use Rattle.vl_pre.specs.Cursors.{left, seen}
use Rattle.vl_pre.proofs.OperandLemmas.{string_operand}
use Rattle.vl_pre.proofs.directives.string_behind.Goals as goal

pub returns-in-Some-clause-exact : goal.returns-in-Some-clause-exact
returns-in-Some-clause-exact c = rw c.quoted.ensures (string_operand (left c.args.text.now c.args.cursor.now) _ _ (seen c.in-Some.piece) c.skip.ensures.left c.in-Some.ensures.some (search rules))
