-- What the forms of statements declare, as equations.
use Rattle.std.proofs.Common.{◌≡◌, ℕ, List, Some, None, map, ap, sym, ◌∙◌}
use Rattle.vl_tree.specs.declared.exprs.Expr.{Expr}
use Rattle.vl_tree.specs.declared.exprs.Lvalue.{Lvalue}
use Rattle.vl_tree.specs.declared.statements.Scope.{Scope}
use Rattle.vl_tree.specs.declared.statements.Stmt as stmt
use Rattle.vl_tree.specs.declared.statements.Stmt.{Stmt}
use Rattle.vl_tree.specs.declared.statements.Stmt.TheVariants as stmts
use Rattle.vl_tree.specs.declared.statements.Citem.TheOpen as open_stmt
use Rattle.vl_tree.specs.declared.statements.Citem.TheFolds.{fold-roll-Stmt}
use Rattle.vl_names.specs.Declarations.{Declares, each, stmt_step, arm_step, stmt_declares}

pub blocking_declares : (at : ℕ) (target : Lvalue) (value : Expr) → stmt_declares (stmt.Blocking at target value) ≡ stmt_step (open_stmt.Blocking at target value)
blocking_declares at target value = ap stmt_declares (sym (stmts.rolls-Blocking at target value)) ∙ fold-roll-Stmt Declares Declares arm_step stmt_step (open_stmt.Blocking at target value)

pub block_declares : (at : ℕ) (body : List Stmt) → stmt_declares (stmt.Block at None body) ≡ each (map stmt_declares body)
block_declares at body = ap stmt_declares (sym (stmts.rolls-Block at None body)) ∙ fold-roll-Stmt Declares Declares arm_step stmt_step (open_stmt.Block at None body)

pub named_block_declares : (at : ℕ) (block : Scope) (body : List Stmt)
    → stmt_declares (stmt.Block at (Some block) body) ≡ stmt_step (open_stmt.Block at (Some block) (map stmt_declares body))
named_block_declares at block body = ap stmt_declares (sym (stmts.rolls-Block at (Some block) body)) ∙ fold-roll-Stmt Declares Declares arm_step stmt_step (open_stmt.Block at (Some block) body)
