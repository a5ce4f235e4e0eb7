use Rattle.std.proofs.Common.{rules}
use Rattle.vl_pre.specs.Cursors.{seen}
use Rattle.vl_pre.specs.Lines.{in_line}
use Rattle.vl_pre.proofs.OperandLemmas.{name_operand}
use Rattle.vl_pre.proofs.lines.name_in_line.Goals as goal

pub returns-in-Some-clause-exact : goal.returns-in-Some-clause-exact
returns-in-Some-clause-exact c = name_operand (in_line c.args.text.now c.args.cursor.now) _ _ (seen c.in-Some.piece) c.skip_in_line.ensures.left c.in-Some.ensures.some (search rules)
