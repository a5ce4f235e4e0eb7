use Rattle.vl_tree.proofs.ExprNames.{level_names}
use Rattle.vl_tree.proofs.StmtNames.{stmt_names}
use Rattle.vl_tree.proofs.TreeNames.{tree_names}
use Rattle.vl_tree.proofs.laws.numbers_are_tokens.Goals as goal

pub returns-clause-source : goal.returns-clause-source
returns-clause-source c = λ ls names n tree h. tree_names ls n names tree h

pub returns-clause-stmt : goal.returns-clause-stmt
returns-clause-stmt c = λ ls names n i j dangling s h. stmt_names ls names h

pub returns-clause-expr : goal.returns-clause-expr
returns-clause-expr c = λ ls n i j e h. level_names ls h
