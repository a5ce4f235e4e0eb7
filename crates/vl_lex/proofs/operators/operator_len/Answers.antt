use Rattle.std.proofs.Common.{sym, subst}
use Rattle.vl_lex.specs.Fronts.{LongestFront}
use Rattle.vl_lex.specs.Operators.{operators, IsOperator}
use Rattle.vl_lex.proofs.Marks.{operator_front}
use Rattle.vl_lex.proofs.operators.operator_len.Goals as goal

pub returns : goal.returns
unfolding operators
returns c = subst (LongestFront IsOperator c.args.rest.now) (sym c.first_len.ensures) (operator_front c.args.rest.now)
