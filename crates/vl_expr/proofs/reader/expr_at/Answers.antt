use Rattle.vl_expr.proofs.Laws.{expr_found, expr_only}
use Rattle.vl_expr.proofs.reader.expr_at.Goals as goal

pub returns-clause-found : goal.returns-clause-found
returns-clause-found c = expr_found c.args.terminals.now c.args.depth c.args.at c.below.result c.below.ensures.exact

pub returns-clause-only : goal.returns-clause-only
returns-clause-only c = expr_only c.args.terminals.now c.args.depth c.args.at c.below.result c.below.ensures.exact
