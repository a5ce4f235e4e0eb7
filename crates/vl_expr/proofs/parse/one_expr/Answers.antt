use Rattle.vl_expr.proofs.Laws
use Rattle.vl_expr.proofs.parse.one_expr.Goals as goal

pub returns-clause-one : goal.returns-clause-one
returns-clause-one c = λ ls n m at i j e f v w. Laws.one_expr ls n m at i j e f v w

pub returns-clause-deeper : goal.returns-clause-deeper
returns-clause-deeper c = λ ls n m at j e le w. Laws.deeper ls n m at j e le w
