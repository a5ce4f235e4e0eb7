use Rattle.std.proofs.Common.{rules}
use Rattle.vl_pre.specs.Cursors.{left}
use Rattle.vl_pre.proofs.OperandLemmas.{name_operand}
use Rattle.vl_pre.proofs.directives.name_behind.Goals as goal

pub returns-in-Some-clause-exact : goal.returns-in-Some-clause-exact
returns-in-Some-clause-exact c = name_operand (left c.args.text.now c.args.cursor.now) _ _ _ c.skip.ensures.left c.in-Some.ensures.some (search rules)
