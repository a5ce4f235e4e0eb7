use Rattle.vl_expr.specs.Terminals.{terminals_of}
use Rattle.vl_expr.proofs.Told.{told_found, told_only, told_refused, told_none}
use Rattle.vl_expr.proofs.parse.parse_expr.Goals as goal

pub returns-clause-found : goal.returns-clause-found
returns-clause-found c =
    told_found c.args.text.now c.args.tokens.now (terminals_of c.args.text.now.bytes c.args.tokens.now) c.args.depth c.args.at c.told.result c.told.ensures

pub returns-clause-only : goal.returns-clause-only
returns-clause-only c =
    told_only c.args.text.now c.args.tokens.now (terminals_of c.args.text.now.bytes c.args.tokens.now) c.args.depth c.args.at c.told.result c.told.ensures

pub returns-clause-none : goal.returns-clause-none
returns-clause-none c =
    told_none c.args.text.now c.args.tokens.now (terminals_of c.args.text.now.bytes c.args.tokens.now) c.args.depth c.args.at c.told.result c.told.ensures

pub returns-clause-refused : goal.returns-clause-refused
returns-clause-refused c =
    told_refused c.args.text.now c.args.tokens.now (terminals_of c.args.text.now.bytes c.args.tokens.now) c.args.depth c.args.at c.told.result c.told.ensures
